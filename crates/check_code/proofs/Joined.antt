-- The tests of lists, and the tests of a check one after the other.
use Rattle.std.proofs.Common.{◌≡◌, ℕ, suc, ◌+◌, ◌^◌, ◌<◌, subst, Bool, true, List, [], ◌∷◌, ◌++◌, append-nil}
use Rattle.std.specs.Prelude.{◌&&◌, flat_map}
use Rattle.std.specs.List.{list_all}
use Rattle.rv64_decode.specs.Ask.{Ask}
use Rattle.rv64_decode.specs.declared.xinstr.XInstr.{XInstr}
use Rattle.loop_data.specs.declared.verdict.Cell.{Cell}
use Rattle.alias_checks.specs.Areas.{Bounds, in_bounds}
use Rattle.alias_checks.specs.CellTests.{cell_fits, all_clear, are_clear}
use Rattle.loop_data.specs.Locations.{address as cell_address}
use Rattle.stub_laws.proofs.Steps.{World}
use Rattle.stub_laws.proofs.Known.{Knows, also}
use Rattle.stub_laws.proofs.Tests.{State, IsTest, both, Known, Each}
use Rattle.stub_laws.proofs.Logs.{at, IsLoading, lifted, both_loading, weaker_fail, less_known}
use Rattle.check_code.specs.CellCode.{cell_code, clear_code}
use Rattle.check_code.specs.CheckCode.{cells_code, all_clear_code}
use Rattle.check_code.proofs.CellTests.{SiteOk, CellOk, cell_ask, cell_law, clear_law, no_test}

-- the tests of a list, in order: the list fails at the first that fails
pub all_law : {X : Type 0} (w : World) (z a : State) (code : X → List XInstr) (test : X → Bool) (Ok : X → Type 0) →
    ((x : X) → Ok x → IsTest w z a a (code x) (test x)) → (xs : List X) → Each Ok xs → IsTest w z a a (flat_map code xs) (list_all test xs)
all_law w z a code test Ok one [] ok = no_test w z a
all_law w z a code test Ok one (x ∷ xs) ok = both w z a a a (code x) (flat_map code xs) (test x) (list_all test xs) (one x ok.0)
    (λ h. all_law w z a code test Ok one xs ok.1)

-- what is known after cells whose slots are numbered from this one on
abbrev pub cells_known : (ℕ → Bool) → ℕ → List Cell → ℕ → Bool
cells_known known slot [] = known
cells_known known slot (c ∷ cs) = cells_known (also known (32 + slot)) (suc slot) cs

abbrev pub AreCellsOk : World → (ℕ → Bool) → (ℕ → ℕ) → List ℕ → List Bounds → ℕ → List Cell → Type 0
AreCellsOk w known e regs areas slot [] = Unit {0}
AreCellsOk w known e regs areas slot (c ∷ cs) = CellOk w known e regs areas slot c × AreCellsOk w (also known (32 + slot)) e regs areas
    (suc slot) cs

pub cells_law : (w : World) (e : ℕ → ℕ) (regs : List ℕ) (areas : List Bounds) (known : ℕ → Bool) (slot : ℕ) (cs : List Cell) → AreCellsOk
    w known e regs areas slot cs
    → IsLoading w (Known known e) (Known known e) (Known (cells_known known slot cs) e) (cells_code areas slot cs)
    (list_all (cell_fits (in_bounds areas) regs) cs) (flat_map (cell_ask regs) cs)
cells_law w e regs areas known slot [] ok = lifted w (Known known e) (Known known e) (Known known e) [] true
    (λ l. no_test (at w l) (Known known e) (Known known e))
cells_law w e regs areas known slot (c ∷ cs) ok =
    let next = also known (32 + slot) in
    let test = cell_fits (in_bounds areas) regs in
    let end = Known (cells_known next (suc slot) cs) e in
    both_loading w (Known known e) (Known known e) (Known next e) end (cell_code areas slot c) (cells_code areas (suc slot) cs) (test c)
    (list_all test cs) (cell_ask regs c) (flat_map (cell_ask regs) cs)
    (cell_law w known e regs areas slot c ok.0)
    (λ h. weaker_fail w (Known next e) (Known known e) (Known next e) end (cells_code areas (suc slot) cs) (list_all test cs)
    (flat_map (cell_ask regs) cs) (λ f g k. less_known known e f g (32 + slot) k) (cells_law w e regs areas next (suc slot) cs ok.1))

pub cells_still : (known : ℕ → Bool) (e f g : ℕ → ℕ) (slot : ℕ) (cs : List Cell) → Knows (cells_known known slot cs) e f g → Knows known e
    f g
cells_still known e f g slot [] k = k
cells_still known e f g slot (c ∷ cs) k = less_known known e f g (32 + slot) (cells_still (also known (32 + slot)) e f g (suc slot) cs k)

-- a cell whose address is known, and low
pub record LowOk (known : ℕ → Bool) (e : ℕ → ℕ) (regs : List ℕ) (c : Cell) : Type 0 where
  pub site : SiteOk known e regs c
  pub below : cell_address regs c < 2 ^ 31

pub all_clear_law : (w : World) (known : ℕ → Bool) (e : ℕ → ℕ) (regs : List ℕ) (cs : List Cell) → Each (LowOk known e regs) cs → IsTest w
    (Known known e) (Known known e) (Known known e) (all_clear_code cs) (all_clear regs cs)
all_clear_law w known e regs [] ok = no_test w (Known known e) (Known known e)
all_clear_law w known e regs (c ∷ cs) ok =
    let z = Known known e in
    both w z z z z (flat_map (clear_code c) cs) (all_clear_code cs) (list_all (are_clear regs c) cs) (all_clear regs cs)
    (all_law w z z (clear_code c) (are_clear regs c) (LowOk known e regs)
    (λ d o. clear_law w known e regs c d ok.0.site o.site ok.0.below o.below) cs ok.1)
    (λ h. all_clear_law w known e regs cs ok.1)

-- the parts of a check: the cells, each two of them, the turns and passes, and four lists behind these
module _ (w : World) (s0 s1 s2 : State) (back1 : (f g : ℕ → ℕ) → s1 f g → s0 f g) (back2 : (f g : ℕ → ℕ) → s2 f g → s0 f g) where
  part : (is : List XInstr) (t : Bool) (a b : State) (back : (f g : ℕ → ℕ) → a f g → s0 f g) →
      ((l : List Ask) → IsTest (at w l) a a b is t) → IsLoading w s0 a b is t []
  part is t a b back h = weaker_fail w a s0 a b is t [] back (lifted w a a b is t h)

  pub parts_law : (i1 i2 i3 i4 i5 i6 i7 : List XInstr) (b1 b2 b3 b4 b5 b6 b7 : Bool) (loads : List Ask)
      → IsLoading w s0 s0 s1 i1 b1 loads
      → (b1 ≡ true → (l : List Ask) → IsTest (at w l) s1 s1 s1 i2 b2)
      → ((l : List Ask) → IsTest (at w l) s1 s1 s2 i3 b3)
      → (b3 ≡ true → (l : List Ask) → IsTest (at w l) s2 s2 s2 i4 b4)
      → (b3 ≡ true → (l : List Ask) → IsTest (at w l) s2 s2 s2 i5 b5)
      → (b1 ≡ true → b3 ≡ true → b5 ≡ true → (l : List Ask) → IsTest (at w l) s2 s2 s2 i6 b6)
      → (b3 ≡ true → b5 ≡ true → (l : List Ask) → IsTest (at w l) s2 s2 s2 i7 b7)
      → IsLoading w s0 s0 s2 (i1 ++ (i2 ++ (i3 ++ (i4 ++ (i5 ++ (i6 ++ i7)))))) (b1 && (b2 && (b3 && (b4 && (b5 && (b6 && b7)))))) loads
  parts_law i1 i2 i3 i4 i5 i6 i7 b1 b2 b3 b4 b5 b6 b7 loads p1 p2 p3 p4 p5 p6 p7 =
      let i = i1 ++ (i2 ++ (i3 ++ (i4 ++ (i5 ++ (i6 ++ i7))))) in
      let b = b1 && (b2 && (b3 && (b4 && (b5 && (b6 && b7))))) in
      subst (IsLoading w s0 s0 s2 i b) (append-nil loads)
      (both_loading w s0 s0 s1 s2 i1 (i2 ++ (i3 ++ (i4 ++ (i5 ++ (i6 ++ i7))))) b1 (b2 && (b3 && (b4 && (b5 && (b6 && b7))))) loads [] p1
      (λ h1. both_loading w s0 s1 s1 s2 i2 (i3 ++ (i4 ++ (i5 ++ (i6 ++ i7)))) b2 (b3 && (b4 && (b5 && (b6 && b7)))) [] []
      (part i2 b2 s1 s1 back1 (p2 h1))
      (λ h2. both_loading w s0 s1 s2 s2 i3 (i4 ++ (i5 ++ (i6 ++ i7))) b3 (b4 && (b5 && (b6 && b7))) [] [] (part i3 b3 s1 s2 back1 p3)
      (λ h3. both_loading w s0 s2 s2 s2 i4 (i5 ++ (i6 ++ i7)) b4 (b5 && (b6 && b7)) [] [] (part i4 b4 s2 s2 back2 (p4 h3))
      (λ h4. both_loading w s0 s2 s2 s2 i5 (i6 ++ i7) b5 (b6 && b7) [] [] (part i5 b5 s2 s2 back2 (p5 h3))
      (λ h5. both_loading w s0 s2 s2 s2 i6 i7 b6 b7 [] [] (part i6 b6 s2 s2 back2 (p6 h1 h3 h5))
      (λ h6. part i7 b7 s2 s2 back2 (p7 h3 h5))))))))
