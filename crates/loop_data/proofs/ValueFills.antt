-- Arrays of values and flags that are filled location by location.
use Rattle.std.proofs.Common.{◌≡◌, ◌≢◌, ℕ, zero, suc, ◌+◌, ◌-◌, ◌<◌, ◌≤◌, ◌⊎◌, ◌↔◌, inl, inr, ◌==◌, ◌||◌, ◌&&◌, Bool, true, false, if◌then◌else◌, nat_lt, List, [], ◌∷◌, ◌++◌, length, get_or, set, take, replicate, Option, Some, None, refl, ap, sym, ◌∙◌, subst, arith, pos, is_some}
use Rattle.std.specs.List.{Contains}
use Rattle.std.proofs.lemmas.Bool.{cases_eq}
use Rattle.std.proofs.lemmas.Bool.Decides.{nat_tests}
use Rattle.std.proofs.lemmas.List.{get_or-set_same, get_or-set_other, length-set, take_more, get_or_default}
use Rattle.loop_data.specs.declared.shape.Level.{Level}
use Rattle.loop_data.specs.declared.values.Value.{Value}
use Rattle.loop_data.specs.declared.values.Value.TheVariants.{Nothing}
use Rattle.loop_data.specs.LoopCode.{LoopCode, writes, any_writes}
use Rattle.loop_data.specs.Facts.{Fact, Offset}
use Rattle.loop_data.specs.FactPass.{header_fact}
use Rattle.loop_data.specs.Locations.{cell_at}
use Rattle.loop_data.specs.declared.cells.Cells.{Cells}
use Rattle.loop_data.specs.declared.verdict.Cell.{Cell}
use Rattle.loop_data.proofs.Tests.{is_ne}
use Rattle.loop_data.specs.Lookups.{fact_of, fact_in, cell_map}
use Rattle.loop_data.specs.declared.flow.Flow.{Flow}
use Rattle.loop_data.specs.declared.values.Values.{Values}
use Rattle.loop_data.specs.ValueStates.{past, lost_by, IsInnerFact}

-- one more value is set, and those below it stay
pub filled : (P : ℕ → Option Fact → Type 0) (S : List Value) (r : ℕ) (x : Value) → r < length S → r < 48 → ((q : ℕ) → q < r → P q (fact_in S q)) → P r (fact_of x) → (q : ℕ) → q < r + 1 → P q (fact_in (set S r x) q)
filled P S r x l low before here q m = by (cases_eq q r)
  where
    by : (q ≡ r) ⊎ (q ≢ r) → P q (fact_in (set S r x) q)
    by (inl e) =
        let t : nat_lt r 48 ≡ true = grind (arith, nat_tests) in
        let v : fact_in (set S r x) r ≡ fact_of x = ap (λ b. if b then fact_of (get_or (set S r x) r Nothing) else None) t ∙ ap fact_of (get_or-set_same S r x Nothing l) in
        subst (λ j. P j (fact_in (set S r x) j)) (sym e) (subst (P r) (sym v) here)
    by (inr ne) = subst (λ v. P q (if nat_lt q 48 then fact_of v else None)) (sym (get_or-set_other S r q x Nothing ne)) (before q (omega arith))

-- a value that is set is what is known of its location, and all others stay
pub fact_set_same : (S : List Value) (r : ℕ) (x : Value) → r < length S → r < 48 → fact_in (set S r x) r ≡ fact_of x
fact_set_same S r x l low =
    let t : nat_lt r 48 ≡ true = grind (arith, nat_tests) in
    ap (λ b. if b then fact_of (get_or (set S r x) r Nothing) else None) t ∙ ap fact_of (get_or-set_same S r x Nothing l)

pub fact_set_other : (S : List Value) (r q : ℕ) (x : Value) → q ≢ r → fact_in (set S r x) q ≡ fact_in S q
fact_set_other S r q x ne = ap (λ v. if nat_lt q 48 then fact_of v else None) (get_or-set_other S r q x Nothing ne)

-- what is known of a location whose value is read
pub fact_read_at : (S : List Value) (r : ℕ) (d : Value) → r < length S → r < 48 → fact_of (get_or S r d) ≡ fact_in S r
fact_read_at S r d l low =
    let t : nat_lt r 48 ≡ true = grind (arith, nat_tests) in
    ap fact_of (get_or_default S r d Nothing l) ∙ sym (ap (λ b. if b then fact_of (get_or S r Nothing) else None) t)

-- the values below r are as wanted, and those from there on as at first
pub record IsFilled (P : ℕ → Option Fact → Type 0) (first now : List Value) (r : ℕ) : Type 0 where
  pub count : length now ≡ 48
  pub above : (q : ℕ) → r ≤ q → fact_in now q ≡ fact_in first q
  pub below : (q : ℕ) → q < r → P q (fact_in now q)

pub filled_set : (P : ℕ → Option Fact → Type 0) (first now : List Value) (r : ℕ) (x : Value) → r < 48 → IsFilled P first now r → P r (fact_of x) → IsFilled P first (set now r x) (r + 1)
filled_set P first now r x low f here =
    let n = f.count in
    record { count = length-set now r x ∙ n; above = λ q l. fact_set_other now r q x (λ e. omega arith) ∙ f.above q (omega arith); below = filled P now r x (omega arith) low f.below here }

pub filled_kept : (P : ℕ → Option Fact → Type 0) (first now : List Value) (r : ℕ) → IsFilled P first now r → P r (fact_in first r) → IsFilled P first now (r + 1)
filled_kept P first now r f here = record { count = f.count; above = λ q l. f.above q (omega arith); below = λ q l. by q l (cases_eq q r) }
  where
    by : (q : ℕ) → q < r + 1 → (q ≡ r) ⊎ (q ≢ r) → P q (fact_in now q)
    by q l (inl e) = subst (λ j. P j (fact_in now j)) (sym e) (subst (P r) (sym (f.above r (omega arith))) here)
    by q l (inr ne) = f.below q (omega arith)

or_assoc : (a b c : Bool) → ((a || b) || c) ≡ (a || (b || c))
or_assoc true b c = refl
or_assoc false b c = refl

or_none : (a : Bool) → (a || false) ≡ a
or_none true = refl
or_none false = refl

writes_push : (B : LoopCode) (us : List ℕ) (u r : ℕ) → any_writes B (us ++ u ∷ []) r ≡ (any_writes B us r || writes B u r)
writes_push B [] u r = or_none (writes B u r)
writes_push B (x ∷ xs) u r = ap (λ b. writes B x r || b) (writes_push B xs u r) ∙ sym (or_assoc (writes B x r) (any_writes B xs r) (writes B u r))

-- a flag that tells whether one of the words writes, after one word more
pub writes_more : (B : LoopCode) (us : List ℕ) (i r : ℕ) (first old new : Bool) → i < length us → old ≡ (first || any_writes B (take i us) r) → new ≡ (old || writes B (get_or us i 0) r) → new ≡ (first || any_writes B (take (i + 1) us) r)
writes_more B us i r first old new l e f =
    f ∙ ap (λ b. b || writes B (get_or us i 0) r) e ∙ or_assoc first (any_writes B (take i us) r) (writes B (get_or us i 0) r)
    ∙ sym (ap (λ b. first || b) (ap (λ xs. any_writes B xs r) (take_more us i 0 l) ∙ writes_push B (take i us) (get_or us i 0) r))

lost_push : (B : LoopCode) (ms : List Level) (m : Level) (v r : ℕ) → lost_by B (ms ++ m ∷ []) v r ≡ (lost_by B ms v r || ((m.header == v) && any_writes B m.body r))
lost_push B [] m v r = or_none ((m.header == v) && any_writes B m.body r)
lost_push B (x ∷ xs) m v r = ap (λ b. ((x.header == v) && any_writes B x.body r) || b) (lost_push B xs m v r) ∙ sym (or_assoc ((x.header == v) && any_writes B x.body r) (lost_by B xs v r) ((m.header == v) && any_writes B m.body r))

pub lost_more : (B : LoopCode) (ms : List Level) (i v r : ℕ) (m : Level) (old new : Bool) → i < length ms → m ≡ get_or ms i m → old ≡ lost_by B (take i ms) v r → new ≡ (old || ((m.header == v) && any_writes B m.body r)) → new ≡ lost_by B (take (i + 1) ms) v r
lost_more B ms i v r m old new l is e f =
    f ∙ ap (λ b. b || ((m.header == v) && any_writes B m.body r)) e
    ∙ sym (ap (λ xs. lost_by B xs v r) (take_more ms i m l) ∙ lost_push B (take i ms) (get_or ms i m) v r ∙ ap (λ (z : Level). lost_by B (take i ms) v r || ((z.header == v) && any_writes B z.body r)) (sym is))

-- what is lost at one more level is lost
pub lost_either : (old here : Bool) (fact : Option Fact) → (if here then None else (if old then None else fact)) ≡ (if old || here then None else fact)
lost_either true true fact = refl
lost_either true false fact = refl
lost_either false true fact = refl
lost_either false false fact = refl

pub inner_is : (lost : Bool) (flow : Flow) (points : List Values) (sources : List ℕ) (r : ℕ) (met new : Option Fact) → new ≡ (if lost then None else met) → ((x : Fact) → (met ≡ Some x) ↔ ((k : ℕ) → Contains sources k → past flow points k r ≡ Some x)) → IsInnerFact lost flow points sources r new
inner_is true flow points sources r met new e h = e
inner_is false flow points sources r met new e h = λ x. (λ q. (h x).0 (sym e ∙ q), λ f. e ∙ (h x).1 f)

-- what all of some places agree on, after one more
pub agreed_more : (P : ℕ → Fact → Type 0) (ks : List ℕ) (i : ℕ) (old new next : Option Fact) (first : Fact → Type 0) → i < length ks
    → ((x : Fact) → (old ≡ Some x) ↔ (first x × ((j : ℕ) → j < i → P (get_or ks j 0) x)))
    → ((x : Fact) → (new ≡ Some x) ↔ ((old ≡ Some x) × (next ≡ Some x)))
    → ((x : Fact) → (next ≡ Some x) ↔ P (get_or ks i 0) x)
    → (x : Fact) → (new ≡ Some x) ↔ (first x × ((j : ℕ) → j < i + 1 → P (get_or ks j 0) x))
agreed_more P ks i old new next first l before met here x = (forth, back)
  where
    forth : new ≡ Some x → first x × ((j : ℕ) → j < i + 1 → P (get_or ks j 0) x)
    forth e =
        let a = (met x).0 e in
        let b = (before x).0 a.0 in
        (b.0, λ j m. by j m b.1 ((here x).0 a.1) (cases_eq j i))
      where
        by : (j : ℕ) → j < i + 1 → ((j : ℕ) → j < i → P (get_or ks j 0) x) → P (get_or ks i 0) x → (j ≡ i) ⊎ (j ≢ i) → P (get_or ks j 0) x
        by j m all last (inl e) = subst (λ q. P (get_or ks q 0) x) (sym e) last
        by j m all last (inr ne) = all j (omega arith)

    back : first x × ((j : ℕ) → j < i + 1 → P (get_or ks j 0) x) → new ≡ Some x
    back a = (met x).1 ((before x).1 (a.0, λ j m. a.1 j (omega arith)), (here x).1 (a.1 i (omega arith)))

pub agreed_all : (P : ℕ → Fact → Type 0) (ks : List ℕ) (n : ℕ) (o : Option Fact) → n ≡ length ks → 1 ≤ length ks
    → ((x : Fact) → (o ≡ Some x) ↔ (P (get_or ks 0 0) x × ((j : ℕ) → j < n → P (get_or ks j 0) x)))
    → (x : Fact) → (o ≡ Some x) ↔ ((k : ℕ) → Contains ks k → P k x)
agreed_all P ks n o e some all x = (forth, back)
  where
    forth : o ≡ Some x → (k : ℕ) → Contains ks k → P k x
    forth q k c =
        let a = (all x).0 q in
        subst (λ z. P z x) (get_or_default ks c.0 0 k c.1 ∙ c.2) (a.1 c.0 (let l = c.1 in omega arith))

    back : ((k : ℕ) → Contains ks k → P k x) → o ≡ Some x
    back f = (all x).1 (f (get_or ks 0 0) (0, some, sym (get_or_default ks 0 0 (get_or ks 0 0) some)), λ j l. f (get_or ks j 0) (j, (let q = e in omega arith), sym (get_or_default ks j 0 (get_or ks j 0) (let q = e in omega arith))))

pub none_set : (n r : ℕ) → get_or (replicate n false) r false ≡ false
none_set zero zero = refl
none_set zero (suc r) = refl
none_set (suc n) zero = refl
none_set (suc n) (suc r) = none_set n r

-- the fact at the header of a cell, and of a number that is no cell's
pub some_cell : (cs : List Cell) (k : ℕ) → k < length cs → is_some (cell_at cs k) ≡ true
some_cell [] k l = absurd (omega arith)
some_cell (x ∷ xs) zero l = refl
some_cell (x ∷ xs) (suc k) l = some_cell xs k (omega arith)

pub no_cell_at : (cs : List Cell) (k : ℕ) → length cs ≤ k → is_some (cell_at cs k) ≡ false
no_cell_at [] k l = refl
no_cell_at (x ∷ xs) zero l = absurd (omega arith)
no_cell_at (x ∷ xs) (suc k) l = no_cell_at xs k (omega arith)

abbrev pub by_cell : (b : Bool) → ℕ → Option Fact
by_cell b r = if b then Some (Offset r (pos 0)) else None

pub header_by : (c : Cells) (r : ℕ) → 32 ≤ r → header_fact (record { instr = λ u. None; cells = cell_map c }) r ≡ by_cell (is_some (cell_at c.list.items (r - 32))) r
header_by c r h =
    let a : (r == 0) ≡ false = is_ne r 0 (λ e. omega arith) in
    let b : nat_lt r 32 ≡ false = grind (arith, nat_tests) in
    rw a (rw b refl)

pub header_of_none : (c : Cells) (r : ℕ) → 32 ≤ r → length c.list.items ≤ r - 32 → None ≡ header_fact (record { instr = λ u. None; cells = cell_map c }) r
header_of_none c r h l = sym (header_by c r h ∙ ap (λ b. by_cell b r) (no_cell_at c.list.items (r - 32) l))
