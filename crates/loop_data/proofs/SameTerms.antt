-- Terms of forms, place by place.
use Rattle.std.proofs.Common.{◌≡◌, ◌<◌, ◌∙◌, ℕ, ℤ, List, length, get_or, ap, sym, to_z, of_z, w64}
use Rattle.std.proofs.lemmas.List.{get_or-map}
use Rattle.linear_forms.specs.declared.location.Loc.{Loc}
use Rattle.linear_forms.specs.Forms.{EntryTerm}
use Rattle.linear_forms.specs.Locations.{term_of, terms_of}

-- lists of terms that are the same are so place by place
pub terms_at : (ts us : List (Loc × ℤ)) (i : ℕ) (d e : Loc × ℤ) → i < length ts → i < length us → terms_of ts ≡ terms_of us
    → term_of ((get_or ts i d).0, to_z w64 (of_z w64 (get_or ts i d).1)) ≡ term_of ((get_or us i e).0, to_z w64 (of_z w64 (get_or us i e).1))
terms_at ts us i d e l m q =
    let k = sym (get_or-map term_of ts i d (term_of d) l) ∙ ap (λ xs. get_or xs i (term_of d)) q ∙ get_or-map term_of us i e (term_of d) m in
    ap (λ (t : EntryTerm). record { loc = t.loc; by = to_z w64 (of_z w64 t.by) }) k
