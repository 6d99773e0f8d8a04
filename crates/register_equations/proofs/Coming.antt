-- Forms that come along edges, and terms place by place.
use Rattle.std.proofs.Common.{◌≡◌, ◌≢◌, ℕ, zero, suc, ◌+◌, ◌<◌, ◌≤◌, ◌⊎◌, ◌↔◌, inl, inr, Bool, true, false, IsTrue, List, [], length, get_or, set, drop, Option, Some, None, refl, ap, sym, ◌∙◌, subst, arith, ℤ, to_z, of_z, w64, ◌==◌, ◌∷◌, if◌then◌else◌, replicate}
use Rattle.std.specs.List.{All}
use Rattle.std.proofs.lemmas.Bool.{cases_eq}
use Rattle.std.proofs.lemmas.List.{get_or-set_same, get_or-set_other, get_or-map}
use Rattle.linear_forms.specs.declared.location.Loc.{Loc}
use Rattle.linear_forms.specs.Forms.{EntryTerm, LinearForm}
use Rattle.linear_forms.specs.Locations.{term_of, terms_of}
use Rattle.loop_data.specs.declared.classes.Class.{Class}
use Rattle.loop_data.specs.declared.classes.Classes.{Classes}
use Rattle.loop_data.specs.declared.shape.Level.{Level}
use Rattle.loop_data.specs.LoopCode.{LoopCode, any_writes}
use Rattle.loop_data.specs.Equations.{header_form}
use Rattle.loop_data.specs.Lookups.{classes_of, role_by}
use Rattle.register_equations.specs.Rows.{forms_in}
use Rattle.register_equations.specs.States.{IsFree, IsHeaderForm}
use Rattle.loop_data.specs.Results.{AreSmall, AreSmallSteps}

-- one more form is set, and those below it stay
pub filled : (P : ℕ → Option LinearForm → Type 0) (S : List (Option LinearForm)) (r : ℕ) (x : Option LinearForm) → r < length S → ((q : ℕ) → q < r → P q (forms_in S q)) → P r x → (q : ℕ) → q < r + 1 → P q (forms_in (set S r x) q)
filled P S r x l before here q m = by (cases_eq q r)
  where
    by : (q ≡ r) ⊎ (q ≢ r) → P q (forms_in (set S r x) q)
    by (inl e) = subst (λ j. P j (forms_in (set S r x) j)) (sym e) (subst (P r) (sym (get_or-set_same S r x None l)) here)
    by (inr ne) = subst (P q) (sym (get_or-set_other S r q x None ne)) (before q (omega arith))

-- the classes of a loop have small steps
small_rows : (ms : List Level) (rows : List (List (Option Class))) (l : Level) → ((i : ℕ) → AreSmall (get_or rows i [])) → AreSmall (classes_of ms rows l)
small_rows [] rows l h = λ r step e. absurd (cc)
small_rows (m ∷ ms) [] l h = λ r step e. absurd (cc)
small_rows (m ∷ ms) (row ∷ rows) l h = go (m.header == l.header) (small_rows ms rows l (λ i. h (suc i)))
  where
    go : (b : Bool) → AreSmall (classes_of ms rows l) → AreSmall (if b then row else classes_of ms rows l)
    go true later = h 0
    go false later = later

pub small_class : (ms : List Level) (c : Classes) (l : Level) → AreSmallSteps c → AreSmall (classes_of ms (c.root ∷ c.inner) l)
small_class ms c l s = small_rows ms (c.root ∷ c.inner) l row
  where
    row : (i : ℕ) → AreSmall (get_or (c.root ∷ c.inner) i [])
    row zero = s.root
    row (suc i) = s.inner i

pub none_set : (n r : ℕ) → get_or (replicate n false) r false ≡ false
none_set zero zero = refl
none_set zero (suc r) = refl
none_set (suc n) zero = refl
none_set (suc n) (suc r) = none_set n r

-- the form at a header, where a flag tells whether the loop writes the location
pub header_record : (B : LoopCode) (levels : List Level) (c : Classes) (l : Level) (P : Option LinearForm → Type 0) (r : ℕ) (o outside : Option LinearForm) (written : Bool) (body : List ℕ) → written ≡ any_writes B body r → body ≡ l.body → P outside
    → (IsFree l.depth outside → o ≡ header_form l.depth (role_by written (get_or (classes_of levels (c.root ∷ c.inner) l) r None)) outside) → IsHeaderForm B levels c l P r o
header_record B levels c l P r o outside written body e b p h =
    record {
      outside = outside;
      met = p;
      is = λ free. h free ∙ ap (λ w. header_form l.depth (role_by w (get_or (classes_of levels (c.root ∷ c.inner) l) r None)) outside) (e ∙ ap (λ us. any_writes B us r) b);
    }
