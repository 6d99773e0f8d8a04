-- The words of a stub among others, as its parts.
use Rattle.std.proofs.Common.{◌≡◌, ℕ, suc, ◌+◌, ◌-◌, ◌<◌, refl, sym, subst, ap, ◌∙◌, arith, List, ◌++◌, length, get_or, Some, append_assoc}
use Rattle.std.specs.Prelude.{slice_get}
use Rattle.std.proofs.lemmas.List.{length-append, get_or-append-add, get_or_append_left}
use Rattle.std.proofs.lemmas.Option.{slice_get-get_or}
use Rattle.rv64_decode.specs.Aim.{Aimed}
use Rattle.rv64_decode.specs.declared.xinstr.XInstr.{XInstr}
use Rattle.stub_laws.specs.Places.{behind}
use Rattle.stub_laws.proofs.Ends.{many_words}
use Rattle.stub_laws.proofs.Places.{aimed_words}
use Rattle.stub_laws.proofs.Small.{fetched_within}
use Rattle.stub_laws.proofs.Steps.{behind_hop, hop_is}
use Rattle.turn_copies.specs.StubCode.{save_code, movings, begin_code, leave_code, fork_code}
use Rattle.turn_copies.specs.Stubs.{begin_place, copies_place, joined_at, refused_at, divided_code}
use Rattle.turn_copies.specs.StubWords.{check_place, fork_place, StubLaw, EndLaw}
use Rattle.turn_copies.proofs.Listing.{placed_law, end_up}
use Rattle.turn_copies.proofs.Stubs.{refusal_placed}

behind_is : (p : ℕ) (is : List XInstr) → behind p is ≡ p + length is
behind_is p is = behind_hop p is ∙ hop_is (length is) p

-- words among others, by the place of the first of them
part_at : (code a b c : List ℕ) (p : ℕ) → code ≡ a ++ (b ++ c) → p ≡ length a → (j : ℕ) → j < length b → slice_get code (p + j) ≡ Some (get_or b j 0)
part_at code a b c p e at j h =
    let front = length-append a (b ++ c) in
    let back = length-append b c in
    let long : length a + j < length (a ++ (b ++ c)) = omega arith in
    ap (λ xs. slice_get xs (p + j)) e ∙ ap (λ n. slice_get (a ++ (b ++ c)) (n + j)) at ∙ slice_get-get_or (a ++ (b ++ c)) (length a + j) 0 long ∙ ap Some (get_or-append-add a (b ++ c) j 0 ∙ get_or_append_left b c 0 j h)

pub stub_law : StubLaw
stub_law before new rest code l B roles check e s =
    let p = length before in
    let to = refused_at l B roles (fork_place p check) - check_place p in
    let tail = s.divided ++ rest in
    let whole : code ≡ before ++ (s.saved ++ (s.aimed ++ tail)) =
    e ∙ ap (λ xs. before ++ (xs ++ rest)) s.are ∙ ap (λ xs. before ++ xs) (append_assoc s.saved (s.aimed ++ s.divided) rest ∙ ap (λ xs. s.saved ++ xs) (append_assoc s.aimed s.divided rest)) in
    let second : code ≡ (before ++ s.saved) ++ (s.aimed ++ tail) = whole ∙ sym (append_assoc before s.saved (s.aimed ++ tail)) in
    let third : code ≡ ((before ++ s.saved) ++ s.aimed) ++ tail = second ∙ sym (append_assoc (before ++ s.saved) s.aimed tail) in
    let saves : 7 ≡ length s.saved = many_words s.saved save_code s.saves in
    let here : check_place p ≡ length (before ++ s.saved) = let a = length-append before s.saved in omega (arith, a, saves) in
    let there : fork_place p check ≡ length ((before ++ s.saved) ++ s.aimed) = let a = length-append (before ++ s.saved) s.aimed in let m = s.many in omega (arith, a, m, here) in
    record {
      saves = placed_law code s.saved p save_code s.saves (part_at code before s.saved (s.aimed ++ tail) p whole refl);
      checks = aimed_words code check s.aimed to (check_place p) 0 s.small s.many (checked here second s.many) (aims to s.aims);
      divides = placed_law code s.divided (fork_place p check) (divided_code l B roles (fork_place p check)) s.divides (part_at code ((before ++ s.saved) ++ s.aimed) s.divided rest (fork_place p check) third there);
    }
  where
    checked : check_place (length before) ≡ length (before ++ s.saved) → code ≡ (before ++ s.saved) ++ (s.aimed ++ (s.divided ++ rest)) → length s.aimed ≡ length check → (j : ℕ) → j < length check → slice_get code (check_place (length before) + j) ≡ Some (get_or s.aimed j 0)
    checked here second many j h = part_at code (before ++ s.saved) s.aimed (s.divided ++ rest) (check_place (length before)) second here j (omega arith)

    aims : (to : ℕ) → ((k : ℕ) → k < length check → Aimed to k (get_or check k 0) (get_or s.aimed k 0)) → (j : ℕ) → j < length check → Aimed to (0 + j) (get_or check j 0) (get_or s.aimed j 0)
    aims to h j lt = let z : j ≡ 0 + j = omega arith in subst (λ n. Aimed to n (get_or check j 0) (get_or s.aimed j 0)) z (h j lt)

pub end_law : EndLaw
end_law code l B roles p check s =
    let q = fork_place p check in
    let a : begin_place q ≡ suc q + length (fork_code (suc q) 0) = behind_is (suc q) (fork_code (suc q) 0) in
    let b = behind_is (begin_place q) (begin_code (movings roles) (begin_place q) 0) in
    let n = end_up l B l.body (copies_place roles q) in
    let j = joined_at l B roles q in
    let r = behind_is (suc j) (leave_code B.cells.cells) in
    let last = refusal_placed code l B roles q s.divides in
    record {
      joined = omega (arith, a, b, n);
      refused = omega (arith, r);
      inside = fetched_within code (refused_at l B roles q) _ last.0;
    }
