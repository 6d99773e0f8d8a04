-- Two answers for the accesses of a loop are the same.
use Rattle.std.proofs.Common.{◌≡◌, ℕ, ◌<◌, Bool, List, [], ◌∷◌, length, map, get_or, Option, Some, None, ap, sym, ◌∙◌, subst, arith}
use Rattle.std.specs.Prelude.{slice_index}
use Rattle.std.specs.List.{All, Contains}
use Rattle.std.proofs.lemmas.List.{get_or_default, same_lists}
use Rattle.rv64_decode.specs.declared.memory.Width.{Width}
use Rattle.linear_forms.specs.Forms.{LinearForm}
use Rattle.loop_data.specs.declared.accesses.Access.{Access}
use Rattle.loop_data.specs.declared.graph.Graph.{Graph}
use Rattle.loop_data.specs.declared.shape.Level.{Level}
use Rattle.loop_data.specs.Accesses.{Motion, motion_at, accessed_form, IsAccessOf, AreAccesses}
use Rattle.loop_data.specs.LoopCode.{LoopCode}
use Rattle.loop_data.specs.LoopWords.{AreNest}
use Rattle.loop_data.specs.Results.{IsInnermost, IsAround}
use Rattle.loop_data.proofs.Keys.{same_seen, same_keyed, with_key, same_keys}
use Rattle.loop_data.proofs.OnePlace.{one_innermost, one_around}
use Rattle.affine_addresses.specs.OneList.{placed, OneListLaw, OneKeptListLaw, OneIrregularLaw, NoneIrregularLaw}

inside : {X : Type 0} {x y : X} → Some x ≡ Some y → x ≡ y
inside e = cc

-- what is the same of two accesses of one word
record AreAlike (a b : Access) : Type 0 where
  pub at : a.at ≡ b.at
  pub level : a.level ≡ b.level
  pub around : (k : ℕ) → k < 3 → slice_index a.around k ≡ slice_index b.around k
  pub form : a.form ≡ b.form
  pub width : a.width ≡ b.width
  pub store : a.store ≡ b.store

-- an access, by its parts
abbrev made : ℕ → ℕ → List ℕ → LinearForm → Width → Bool → Access
made at level around form width store = record { at = at; level = level; around = around; form = form; width = width; store = store }

same_made : (a b : Access) → AreAlike a b → (xs ys : List ℕ) → xs ≡ ys → made a.at a.level xs a.form a.width a.store ≡ made b.at b.level ys b.form b.width b.store
same_made a b s xs ys e =
    ap (λ u. made u a.level xs a.form a.width a.store) s.at
    ∙ ap (λ l. made b.at l xs a.form a.width a.store) s.level
    ∙ ap (λ zs. made b.at b.level zs a.form a.width a.store) e
    ∙ ap (λ f. made b.at b.level ys f a.width a.store) s.form
    ∙ ap (λ w. made b.at b.level ys b.form w a.store) s.width
    ∙ ap (λ t. made b.at b.level ys b.form b.width t) s.store

same_placed : (a b : Access) → AreAlike a b → placed a ≡ placed b
same_placed a b s = same_made a b s (three a.around) (three b.around) (ap (λ n. n ∷ slice_index a.around 1 ∷ slice_index a.around 2 ∷ []) (s.around 0 (omega arith)) ∙ ap (λ n. slice_index b.around 0 ∷ n ∷ slice_index a.around 2 ∷ []) (s.around 1 (omega arith)) ∙ ap (λ n. slice_index b.around 0 ∷ slice_index b.around 1 ∷ n ∷ []) (s.around 2 (omega arith)))
  where
    three : List ℕ → List ℕ
    three xs = slice_index xs 0 ∷ slice_index xs 1 ∷ slice_index xs 2 ∷ []

same_access : (a b : Access) → AreAlike a b → length a.around ≡ 3 → length b.around ≡ 3 → a ≡ b
same_access a b s m n = same_made a b s a.around b.around (same_lists a.around b.around (m ∙ sym n) place)
  where
    place : (k x : ℕ) → k < length a.around → get_or a.around k x ≡ get_or b.around k x
    place k x l = get_or_default a.around k x 0 l ∙ s.around k (omega arith) ∙ get_or_default b.around k 0 x (omega arith)

module _ (G : Graph) (ls : List Level) (nest : AreNest G ls) (B : LoopCode) (at : ℕ → ℕ → Option LinearForm) where
  alike : (a b : Access) → IsAccessOf ls B at a → IsAccessOf ls B at b → a.at ≡ b.at → AreAlike a b
  alike a b f g e =
      let motion : f.motion ≡ g.motion = inside (sym f.moves ∙ ap (motion_at B) e ∙ g.moves) in
      record {
        at = e;
        level = one_innermost G ls nest b.at a.level b.level (subst (λ u. IsInnermost ls u a.level) e f.innermost) g.innermost;
        around = λ k l. one_around G ls nest b.at k (slice_index a.around k) (slice_index b.around k) (subst (λ u. IsAround ls u k (slice_index a.around k)) e (f.around k l)) (g.around k l);
        form = inside (sym f.form ∙ ap (λ u. accessed_form (at u) f.motion) e ∙ ap (accessed_form (at b.at)) motion ∙ g.form);
        width = f.width ∙ ap (λ (m : Motion). m.width) motion ∙ sym g.width;
        store = f.store ∙ ap (λ (m : Motion). m.store) motion ∙ sym g.store;
      }

  module _ (body : List ℕ) (xs ys : List Access) (f : AreAccesses ls body B at xs) (g : AreAccesses ls body B at ys) where
    has_other : (vs ws : List Access) → AreAccesses ls body B at vs → AreAccesses ls body B at ws → (a : Access) → Contains vs a → Contains (map (λ (b : Access). b.at) ws) a.at
    has_other vs ws p q a c = let e = p.each a c in q.every a.at (e.1).motion e.0 (e.1).moves

    addresses : map (λ (a : Access). a.at) xs ≡ map (λ (a : Access). a.at) ys
    addresses = same_keys (λ (a : Access). a.at) xs ys f.ordered g.ordered (has_other xs ys f g) (has_other ys xs g f)

    pub same_list : map placed xs ≡ map placed ys
    same_list = same_seen (λ (a : Access). a.at) placed xs ys addresses (λ a b c d e. same_placed a b (alike a b (f.each a c).1 (g.each b d).1 e))

    pub same_kept : All (λ (a : Access). length a.around ≡ 3) xs → All (λ (a : Access). length a.around ≡ 3) ys → xs ≡ ys
    same_kept m n = same_keyed (λ (a : Access). a.at) xs ys addresses (λ a b c d e. same_access a b (alike a b (f.each a c).1 (g.each b d).1 e) (sized xs m a c) (sized ys n b d))
      where
        sized : (zs : List Access) → All (λ (a : Access). length a.around ≡ 3) zs → (a : Access) → Contains zs a → length a.around ≡ 3
        sized zs all a c = subst (λ (b : Access). length b.around ≡ 3) c.2 (all c.0 a c.1)

pub one_list : OneListLaw
one_list G ls body B at xs ys nest f g = same_list G ls nest B at body xs ys f g

pub one_kept_list : OneKeptListLaw
one_kept_list G ls body B at xs ys nest f g m n = same_kept G ls nest B at body xs ys f g m n

pub one_irregular : OneIrregularLaw
one_irregular body B at u v f g = let a = f.least v g.is in let b = g.least u f.is in omega arith

pub none_irregular : NoneIrregularLaw
none_irregular ls body B at list u f h =
    let i = h.is in
    let r = with_key (λ (a : Access). a.at) list u (f.every u i.motion i.inside i.moves) in
    let a = r.0 in
    let own = (f.each a r.1).1 in
    let motion : own.motion ≡ i.motion = inside (sym own.moves ∙ ap (motion_at B) r.2 ∙ i.moves) in
    absurd (never (sym (ap (λ v. accessed_form (at v) own.motion) r.2 ∙ ap (accessed_form (at u)) motion ∙ i.irregular) ∙ own.form))
  where
    never : {x : LinearForm} → None ≡ Some x → ⊥
    never e = absurd (cc)
