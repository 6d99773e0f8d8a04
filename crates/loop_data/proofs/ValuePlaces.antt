-- Points whose values are set place by place, and what they are in the end.
use Rattle.std.proofs.Common.{◌≡◌, ◌≢◌, ℕ, zero, suc, ◌+◌, ◌-◌, ◌<◌, ◌≤◌, ◌⊎◌, ◌↔◌, inl, inr, ◌==◌, ◌||◌, ◌&&◌, Bool, true, false, if◌then◌else◌, nat_lt, List, [], ◌∷◌, length, map, get_or, set, Option, Some, None, refl, ap, sym, ◌∙◌, subst, arith}
use Rattle.std.specs.List.{All, Contains}
use Rattle.std.specs.List.Sorted.{IsStrictlyIncreasing}
use Rattle.std.proofs.lemmas.Bool.{cases_eq}
use Rattle.std.proofs.lemmas.Bool.Decides.{nat_tests}
use mathlib.Core.Path.{fun_ext}
use Rattle.std.proofs.lemmas.List.{get_or-set_same, get_or-set_other, get_or_default, get_or-map, length-map}
use Rattle.rv64_decode.specs.declared.instr.Instr.{Instr}
use Rattle.rv64_decode.specs.declared.instr.Instr.TheVariants.{Alu, AluImm, Upper, Load, Store, Branch, Jal, Jalr, Fence, Ecall, Ebreak}
use Rattle.loop_data.specs.declared.flow.Flow.{Flow}
use Rattle.loop_data.specs.declared.graph.Graph.{Graph}
use Rattle.loop_data.specs.declared.shape.Level.{Level}
use Rattle.loop_data.specs.declared.values.Value.{Value}
use Rattle.loop_data.specs.declared.values.Value.TheVariants.{Nothing}
use Rattle.loop_data.specs.declared.values.Values.{Values}
use Rattle.loop_data.specs.Nests.{Nest, has, nest_of, In, levels, Among, Holds, IsNest}
use Rattle.loop_data.specs.LoopWords.{AreNest}
use Rattle.loop_data.specs.Locations.{CellMap, first_cell, instr_writes, writes_register, writes_cell, cell_at}
use Rattle.loop_data.specs.LoopCode.{LoopCode, instr_among, code_of, writes, any_writes, IsWritten, IsForwardIn, LiesIn}
use Rattle.loop_data.specs.Facts.{Fact, written_fact, fact_after, fact_past}
use Rattle.loop_data.specs.FactPass.{header_fact, IsKeptAt, AreFacts}
use Rattle.loop_data.specs.Flows.{rows, row_at, at, HasSources, IsOrder, IsFlow}
use Rattle.loop_data.specs.Lookups.{fact_of, fact_in, fact_at, use_of, cell_map, AreNumbered, AreFew}
use Rattle.loop_data.specs.declared.cells.Cells.{Cells}
use Rattle.loop_data.specs.declared.verdict.Cell.{Cell}
use Rattle.loop_data.specs.Results.{IsNestOf, AreFactsOf}
use Rattle.loop_data.specs.ValueStates.{nothing_known, values_at, past, lost_by, IsInnerFact, IsState, IsPlace, IsSetAt}
use Rattle.loop_data.proofs.Tests.{eq_of, is_eq, is_ne, true_or_false, yes_no}
use Rattle.loop_data.proofs.FlowEdges.{sources_forward, forward_sources, place_of_word, listed_in}

low_of : (r n : ℕ) → nat_lt r n ≡ true → r < n
low_of r n e = grind (arith, nat_tests)

high_of : (r n : ℕ) → nat_lt r n ≡ false → n ≤ r
high_of r n e = grind (arith, nat_tests)

not_low : (r n : ℕ) → n ≤ r → nat_lt r n ≡ false
not_low r n l = grind (arith, nat_tests)

-- no instruction writes a location whose number is too high
pub none_beyond : (i : Option Instr) (cell : Option ℕ) (r : ℕ) → ((k : ℕ) → cell ≡ Some k → k < 16) → 48 ≤ r → instr_writes i cell r ≡ false
none_beyond None cell r few h = refl
none_beyond (Some i) cell r few h = ap (λ b. if b then writes_register i r else writes_cell i cell r) (not_low r first_cell (omega arith)) ∙ by i cell few
  where
    by : (i : Instr) (cell : Option ℕ) → ((k : ℕ) → cell ≡ Some k → k < 16) → writes_cell i cell r ≡ false
    by (Store op rs1 rs2 imm) (Some k) few = let l = few k refl in is_ne (first_cell + k) r (λ e. omega arith)
    by (Store op rs1 rs2 imm) None few = refl
    by (Alu op rd rs1 rs2) cell few = refl
    by (AluImm op rd rs1 imm) cell few = refl
    by (Upper op rd imm) cell few = refl
    by (Load op rd rs1 imm) cell few = refl
    by (Branch op rs1 rs2 imm) cell few = refl
    by (Jal rd imm) cell few = refl
    by (Jalr rd rs1 imm) cell few = refl
    by (Fence rd rs1 imm) cell few = refl
    by Ecall cell few = refl
    by Ebreak cell few = refl

-- the addresses stay
pub ats_kept : (points : List Values) (p : ℕ) (state : List Value) → map (λ (v : Values). v.at) (set points p (record { at = (values_at points p).at; of = state })) ≡ map (λ (v : Values). v.at) points
ats_kept [] p state = refl
ats_kept (x ∷ xs) zero state = refl
ats_kept (x ∷ xs) (suc p) state = ap (λ ys. x.at ∷ ys) (ats_kept xs p state)

pub other_kept : (points : List Values) (p k : ℕ) (x : Values) → k ≢ p → values_at (set points p x) k ≡ values_at points k
other_kept points p k x ne = get_or-set_other points p k x nothing_known ne

inner_kept : (lost : Bool) (flow : Flow) (old new : List Values) (sources : List ℕ) (r : ℕ) (fact : Option Fact) → ((k : ℕ) → Contains sources k → values_at new k ≡ values_at old k) → IsInnerFact lost flow old sources r fact → IsInnerFact lost flow new sources r fact
inner_kept true flow old new sources r fact same h = h
inner_kept false flow old new sources r fact same h = λ x. (λ e k c. subst (λ o. o ≡ Some x) (there k c) ((h x).0 e k c), λ f. (h x).1 (λ k c. subst (λ o. o ≡ Some x) (sym (there k c)) (f k c)))
  where
    there : (k : ℕ) → Contains sources k → past flow old k r ≡ past flow new k r
    there k c = ap (λ (v : Values). fact_past v.at (get_or flow.instrs.items k None) (get_or flow.uses.items k None) (fact_in v.of) r) (sym (same k c))

-- what is right out of the values at the sources stays right where these stay
pub state_kept : (B : LoopCode) (levels : List Level) (header : ℕ) (flow : Flow) (old new : List Values) (p v : ℕ) (state : List Value) → ((k : ℕ) → Contains (row_at (rows flow.sources.items) p) k → values_at new k ≡ values_at old k)
    → IsState B levels header flow old p v state → IsState B levels header flow new p v state
state_kept B levels header flow old new p v state same s = record { first = s.first; other = λ ne r l. inner_kept (lost_by B levels v r) flow old new (row_at (rows flow.sources.items) p) r (fact_in state r) same (s.other ne r l) }

-- one more place in the order is right
pub places_more : (B : LoopCode) (levels : List Level) (header : ℕ) (flow : Flow) (order : List ℕ) (old new : List Values) (i : ℕ) → i < length order → IsOrder (rows flow.sources.items) order → length (rows flow.sources.items) ≡ length old
    → ((j : ℕ) → j < i → IsPlace B levels header flow old (get_or order j 0)) → IsSetAt B levels header flow (get_or order i 0) old new → (j : ℕ) → j < i + 1 → IsPlace B levels header flow new (get_or order j 0)
places_more B levels header flow order old new i li o n before s j lj = subst (λ (xs : List Values). IsPlace B levels header flow xs (get_or order j 0)) (sym s.is) (by (cases_eq j i))
  where
    p : ℕ
    p = get_or order i 0

    x : Values
    x = record { at = (values_at old p).at; of = s.state }

    more : List Values
    more = set old p x

    fits : p < length old
    fits = let w = o.within i li in omega arith

    same : (q : ℕ) → q < i + 1 → (k : ℕ) → Contains (row_at (rows flow.sources.items) (get_or order q 0)) k → values_at more k ≡ values_at old k
    same q lq k c =
        let r = o.after q k (omega arith) c in
        let m = r.1 in
        other_kept old p k x (λ e. o.once r.0 i (omega arith) li (r.2 ∙ e))

    by : (j ≡ i) ⊎ (j ≢ i) → IsPlace B levels header flow more (get_or order j 0)
    by (inl e) =
        let here : values_at more p ≡ x = get_or-set_same old p x nothing_known fits in
        subst (λ q. IsPlace B levels header flow more (get_or order q 0)) (sym e)
        (subst (λ (v : Values). IsState B levels header flow more p v.at v.of) (sym here) (state_kept B levels header flow old more p (values_at old p).at s.state (same i (omega arith)) s.right))
    by (inr ne) =
        let q = get_or order j 0 in
        let there : values_at more q ≡ values_at old q = other_kept old p q x (o.once j i (omega arith) li) in
        subst (λ (v : Values). IsState B levels header flow more q v.at v.of) (sym there) (state_kept B levels header flow old more q (values_at old q).at (values_at old q).of (same j lj) (before j (omega arith)))

-- the point at a place is that of its address
at_by : (points : List Values) (k r : ℕ) → ((i j : ℕ) → i < j → j < length points → (values_at points i).at < (values_at points j).at) → k < length points → fact_at points (values_at points k).at r ≡ fact_in (values_at points k).of r
at_by [] k r up l = absurd (omega arith)
at_by (v ∷ vs) zero r up l = ap (λ b. if b then fact_in v.of r else fact_at vs v.at r) (is_eq v.at v.at refl)
at_by (v ∷ vs) (suc k) r up l =
    let lt : v.at < (values_at vs k).at = up 0 (suc k) (omega arith) l in
    ap (λ b. if b then fact_in v.of r else fact_at vs (values_at vs k).at r) (is_ne v.at (values_at vs k).at (λ e. omega arith))
    ∙ at_by vs k r (λ i j a b. up (suc i) (suc j) (omega arith) (omega arith)) (omega arith)

any_is : (B : LoopCode) (us : List ℕ) (u r : ℕ) → has us u ≡ true → writes B u r ≡ true → any_writes B us r ≡ true
any_is B [] u r h w = absurd (cc)
any_is B (x ∷ xs) u r h w = go (x == u) refl h (writes B x r) refl (λ k. any_is B xs u r k w)
  where
    go : (b : Bool) → (x == u) ≡ b → (if b then true else has xs u) ≡ true → (c : Bool) → writes B x r ≡ c → (has xs u ≡ true → any_writes B xs r ≡ true) → (c || any_writes B xs r) ≡ true
    go b e h true f later = refl
    go true e h false f later = absurd (yes_no _ w (subst (λ y. writes B y r ≡ false) (eq_of x u e) f))
    go false e h false f later = later h

none_any : (B : LoopCode) (us : List ℕ) (r : ℕ) → ((u : ℕ) → has us u ≡ true → writes B u r ≡ false) → any_writes B us r ≡ false
none_any B [] r f = refl
none_any B (x ∷ xs) r f = ap (λ b. b || any_writes B xs r) (f x (ap (λ b. if b then true else has xs x) (is_eq x x refl))) ∙ none_any B xs r (λ u h. f u (later u h))
  where
    later : (u : ℕ) → has xs u ≡ true → has (x ∷ xs) u ≡ true
    later u h = go (x == u)
      where
        go : (b : Bool) → (if b then true else has xs u) ≡ true
        go true = refl
        go false = h

lost_is : (B : LoopCode) (ls : List Level) (m : Level) (v r : ℕ) → In ls m → v ≡ m.header → any_writes B m.body r ≡ true → lost_by B ls v r ≡ true
lost_is B [] m v r i e w = absurd i
lost_is B (x ∷ xs) m v r (inl q) e w =
    ap (λ b. b || lost_by B xs v r) (ap (λ (z : Level). (z.header == v) && any_writes B z.body r) q ∙ ap (λ b. b && any_writes B m.body r) (is_eq m.header v (sym e)) ∙ w)
lost_is B (x ∷ xs) m v r (inr i) e w = go ((x.header == v) && any_writes B x.body r) (lost_is B xs m v r i e w)
  where
    go : (b : Bool) → lost_by B xs v r ≡ true → (b || lost_by B xs v r) ≡ true
    go true l = refl
    go false l = l

none_lost : (B : LoopCode) (ls : List Level) (v r : ℕ) → ((m : Level) → In ls m → v ≡ m.header → any_writes B m.body r ≡ false) → lost_by B ls v r ≡ false
none_lost B [] v r f = refl
none_lost B (x ∷ xs) v r f = go (x.header == v) refl (none_lost B xs v r (λ m i. f m (inr i)))
  where
    go : (b : Bool) → (x.header == v) ≡ b → lost_by B xs v r ≡ false → ((b && any_writes B x.body r) || lost_by B xs v r) ≡ false
    go true e l = ap (λ c. c || lost_by B xs v r) (f x (inl refl) (sym (eq_of x.header v e))) ∙ l
    go false e l = l

module _ (G : Graph) (ls : List Level) (nest : AreNest G ls) (l : Level) (among : In ls l) where
  abbrev pub M : Nest
  M = nest_of G nest.root nest.inner

  in_M : Among M l
  in_M = subst (λ (xs : List Level). In xs l) nest.are among

  -- an edge leads to each word but the header that closes no loop
  pub some_source : (v : ℕ) → Holds l v → v ≢ l.header → (u : ℕ) × IsForwardIn M l.body u v
  some_source v h ne =
      let root = nest.nest.bodies.within l in_M v h in
      by (cases_eq v M.root.header) root
    where
      from : Rattle.loop_data.specs.Nests.IsEntered M v → (u : ℕ) × IsForwardIn M l.body u v
      from e = inside (true_or_false (has l.body e.from))
        where
          inside : (has l.body e.from ≡ true) ⊎ (has l.body e.from ≡ false) → (u : ℕ) × IsForwardIn M l.body u v
          inside (inl i) = (e.from, record { edge = record { from = i; to = h; leads = e.edge.leads }; closes = λ m a b q. yes_no _ b (e.outside m a q) })
          inside (inr i) = absurd (ne (nest.nest.bodies.enter l in_M e.from v e.edge i h))

      by : (v ≡ M.root.header) ⊎ (v ≢ M.root.header) → Holds M.root v → (u : ℕ) × IsForwardIn M l.body u v
      by (inr n) r = from (nest.nest.shapes.entered v r n)
      by (inl q) r =
          let i = nest.nest.bodies.apart M.root l (inl refl) in_M (subst (λ u. has l.body u ≡ true) q h) (nest.nest.bodies.within l in_M l.header (nest.nest.bodies.header l in_M)) in
          absurd (ne (q ∙ ap (λ (z : Level). z.header) i))

  -- the row of a place has places, and that of a word but the header has some
  pub row_within : (C : CellMap) (flow : Flow) → IsFlow G C ls l.body flow → (p k : ℕ) → Contains (row_at (rows flow.sources.items) p) k → k < length l.body
  row_within C flow f p k c = (f.sources.each p k c).0

  pub row_some : (C : CellMap) (flow : Flow) → IsFlow G C ls l.body flow → (p : ℕ) → p < length l.body → at l.body p ≢ l.header → 1 ≤ length (row_at (rows flow.sources.items) p)
  row_some C flow f p m ne = by (some_source (at l.body p) (Rattle.loop_data.proofs.Steps.contains_has l.body (at l.body p) (Rattle.std.proofs.lemmas.List.Elements.Contains-get_or l.body p 0 m)) ne)
    where
      sources : HasSources G (nest.root ∷ nest.inner) l.body (length l.body) (rows flow.sources.items)
      sources = subst (λ (xs : List Level). HasSources G xs l.body (length l.body) (rows flow.sources.items)) nest.are f.sources

      by : (u : ℕ) × IsForwardIn M l.body u (at l.body p) → 1 ≤ length (row_at (rows flow.sources.items) p)
      by s = go (place_of_word l.body s.0 s.1.edge.from)
        where
          go : (k : ℕ) × (k < length l.body) × (at l.body k ≡ s.0) → 1 ≤ length (row_at (rows flow.sources.items) p)
          go k =
              let c = forward_sources G nest.root nest.inner l.body (rows flow.sources.items) sources p k.0 k.1 m (subst (λ w. IsForwardIn M l.body w (at l.body p)) (sym k.2) s.1) in
              let x = c.1 in
              omega arith

module _ (G : Graph) (C : CellMap) (ls : List Level) (nest : AreNest G ls) (l : Level) (among : In ls l) (flow : Flow) (is_flow : IsFlow G C ls l.body flow) (points : List Values) (ats : map (λ (v : Values). v.at) points ≡ l.body)
    (right : (p : ℕ) → p < length l.body → IsPlace (code_of G C) ls l.header flow points p) (few : AreFew C) where
  abbrev pub N : Nest
  N = nest_of G nest.root nest.inner

  abbrev pub B : LoopCode
  B = code_of G C

  in_nest : (m : Level) → In ls m → Among N m
  in_nest m i = subst (λ (xs : List Level). In xs m) nest.are i

  in_list : (m : Level) → Among N m → In ls m
  in_list m i = subst (λ (xs : List Level). In xs m) (sym nest.are) i

  ordered : IsStrictlyIncreasing l.body
  ordered = nest.ordered l (in_nest l among)

  count : length points ≡ length l.body
  count = sym (length-map points (λ (v : Values). v.at)) ∙ ap length ats

  at_is : (k : ℕ) → k < length l.body → (values_at points k).at ≡ at l.body k
  at_is k m = sym (get_or-map (λ (v : Values). v.at) points k nothing_known 0 (let c = count in omega arith)) ∙ ap (λ xs. get_or xs k 0) ats

  rises : (i j : ℕ) → i < j → j < length points → (values_at points i).at < (values_at points j).at
  rises i j a b =
      let c = count in
      let x = Rattle.std.proofs.lemmas.List.Kept.AllPairs-from_increasing l.body ordered i j 0 a (omega arith) in
      let y = at_is i (omega arith) in
      let z = at_is j (omega arith) in
      omega arith

  fact_is : (k r : ℕ) → k < length l.body → fact_at points (at l.body k) r ≡ fact_in (values_at points k).of r
  fact_is k r m = ap (λ u. fact_at points u r) (sym (at_is k m)) ∙ at_by points k r rises (let c = count in omega arith)

  instr_is : (k : ℕ) → k < length l.body → get_or flow.instrs.items k None ≡ instr_among G.words (at l.body k)
  instr_is k m = ap (λ xs. get_or xs k None) is_flow.instrs ∙ get_or-map (instr_among G.words) l.body k 0 None m

  use_is : (k : ℕ) → k < length l.body → get_or flow.uses.items k None ≡ C.uses (at l.body k)
  use_is k m = ap (λ xs. get_or xs k None) is_flow.uses ∙ get_or-map C.uses l.body k 0 None m

  past_is : (k r : ℕ) → k < length l.body → past flow points k r ≡ fact_after B (at l.body k) (fact_at points (at l.body k)) r
  past_is k r m =
      let u = at l.body k in
      let same : fact_in (values_at points k).of ≡ fact_at points u = fun_ext (λ q. sym (fact_is k q m)) in
      ap (λ a. fact_past a (get_or flow.instrs.items k None) (get_or flow.uses.items k None) (fact_in (values_at points k).of) r) (at_is k m)
      ∙ ap (λ (i : Option Instr). fact_past u i (get_or flow.uses.items k None) (fact_in (values_at points k).of) r) (instr_is k m)
      ∙ ap (λ (c : Option ℕ). fact_past u (instr_among G.words u) c (fact_in (values_at points k).of) r) (use_is k m)
      ∙ ap (λ V. fact_past u (instr_among G.words u) (C.uses u) V r) same

  -- a fact of a location that has none, as its number is too high
  beyond : (u r : ℕ) → nat_lt r 48 ≡ false → fact_at points u r ≡ None
  beyond u r h = go points
    where
      go : (ps : List Values) → fact_at ps u r ≡ None
      go [] = refl
      go (v ∷ vs) = by (v.at == u) (go vs)
        where
          by : (b : Bool) → fact_at vs u r ≡ None → (if b then fact_in v.of r else fact_at vs u r) ≡ None
          by true e = ap (λ c. if c then fact_of (get_or v.of r Nothing) else None) h
          by false e = e

  header_beyond : (r : ℕ) → nat_lt r 48 ≡ false → header_fact B r ≡ None
  header_beyond r h =
      let l = high_of r 48 h in
      let a : (r == 0) ≡ false = is_ne r 0 (λ e. omega arith) in
      let b : nat_lt r 32 ≡ false = not_low r 32 (omega arith) in
      let c : cell_at C.cells (r - first_cell) ≡ None = few.cells (r - first_cell) (omega arith) in
      rw a (rw b (rw c refl))

  header_right : (r : ℕ) → fact_at points l.header r ≡ header_fact B r
  header_right r = go (nat_lt r 48) refl (place_of_word l.body l.header (nest.nest.bodies.header l (in_nest l among)))
    where
      go : (b : Bool) → nat_lt r 48 ≡ b → (k : ℕ) × (k < length l.body) × (at l.body k ≡ l.header) → fact_at points l.header r ≡ header_fact B r
      go true h w =
          let lt : r < 48 = low_of r 48 h in
          ap (λ u. fact_at points u r) (sym w.2) ∙ fact_is w.0 r w.1 ∙ (right w.0 w.1).first (at_is w.0 w.1 ∙ w.2) r lt
      go false h w = beyond l.header r h ∙ sym (header_beyond r h)

  inner_at : (v r : ℕ) → v ≢ l.header → r < 48 → (k : ℕ) → k < length l.body → at l.body k ≡ v → (b : Bool) → lost_by B ls v r ≡ b → IsInnerFact b flow points (row_at (rows flow.sources.items) k) r (fact_at points v r)
  inner_at v r ne lt k m e b f =
      let here : (values_at points k).at ≡ v = at_is k m ∙ e in
      let o = (right k m).other (λ q. ne (sym here ∙ q)) r lt in
      let g : lost_by B ls (values_at points k).at r ≡ b = ap (λ u. lost_by B ls u r) here ∙ f in
      subst (λ x. IsInnerFact b flow points (row_at (rows flow.sources.items) k) r x) (sym (ap (λ u. fact_at points u r) (sym e) ∙ fact_is k r m))
      (subst (λ c. IsInnerFact c flow points (row_at (rows flow.sources.items) k) r (fact_in (values_at points k).of r)) g o)

  lies_other : (m : Level) → LiesIn N l m → m.header ≢ l.header
  lies_other m i e =
      i.other (nest.nest.bodies.apart m l i.among (in_nest l among) i.header (subst (λ u. has m.body u ≡ true) e (nest.nest.bodies.header m i.among)))

  lost_right : (m : Level) → LiesIn N l m → (r : ℕ) → IsWritten B m r → fact_at points m.header r ≡ None
  lost_right m i r w = go (nat_lt r 48) refl (place_of_word l.body m.header i.header)
    where
      go : (b : Bool) → nat_lt r 48 ≡ b → (k : ℕ) × (k < length l.body) × (at l.body k ≡ m.header) → fact_at points m.header r ≡ None
      go false h p = beyond m.header r h
      go true h p =
          let lt : r < 48 = low_of r 48 h in
          inner_at m.header r (lies_other m i) lt p.0 p.1 p.2 true (lost_is B ls m m.header r (in_list m i.among) refl (any_is B m.body w.word r w.inside w.does))

  kept_lost : (v r : ℕ) → Holds l v → v ≢ l.header → IsKeptAt N B l v r → lost_by B ls v r ≡ false
  kept_lost v r h ne kept =
      none_lost B ls v r (λ m i e. none_any B m.body r (kept m (record { among = in_nest m i; header = subst (λ u. has l.body u ≡ true) e h; other = λ q. ne (e ∙ ap (λ (z : Level). z.header) q) }) e))

  met_right : (v r : ℕ) (x : Fact) → Holds l v → v ≢ l.header → IsKeptAt N B l v r → (fact_at points v r ≡ Some x) ↔ ((u : ℕ) → IsForwardIn N l.body u v → fact_after B u (fact_at points u) r ≡ Some x)
  met_right v r x h ne kept = go (nat_lt r 48) refl (place_of_word l.body v h)
    where
      sources : HasSources G (nest.root ∷ nest.inner) l.body (length l.body) (rows flow.sources.items)
      sources = subst (λ (xs : List Level). HasSources G xs l.body (length l.body) (rows flow.sources.items)) nest.are is_flow.sources

      go : (b : Bool) → nat_lt r 48 ≡ b → (k : ℕ) × (k < length l.body) × (at l.body k ≡ v) → (fact_at points v r ≡ Some x) ↔ ((u : ℕ) → IsForwardIn N l.body u v → fact_after B u (fact_at points u) r ≡ Some x)
      go true t p =
          let lt : r < 48 = low_of r 48 t in
          let o = inner_at v r ne lt p.0 p.1 p.2 false (kept_lost v r h ne kept) x in
          (λ e u f. forth (o.0 e) u f (place_of_word l.body u f.edge.from), λ f. o.1 (λ k c. back f k c))
        where
          forth : ((k : ℕ) → Contains (row_at (rows flow.sources.items) p.0) k → past flow points k r ≡ Some x) → (u : ℕ) → IsForwardIn N l.body u v → (j : ℕ) × (j < length l.body) × (at l.body j ≡ u) → fact_after B u (fact_at points u) r ≡ Some x
          forth all u f j =
              let g = subst (λ w. IsForwardIn N l.body w (at l.body p.0)) (sym j.2) (subst (λ w. IsForwardIn N l.body u w) (sym p.2) f) in
              let c = forward_sources G nest.root nest.inner l.body (rows flow.sources.items) sources p.0 j.0 j.1 p.1 g in
              subst (λ w. fact_after B w (fact_at points w) r ≡ Some x) j.2 (sym (past_is j.0 r j.1) ∙ all j.0 c)

          back : ((u : ℕ) → IsForwardIn N l.body u v → fact_after B u (fact_at points u) r ≡ Some x) → (k : ℕ) → Contains (row_at (rows flow.sources.items) p.0) k → past flow points k r ≡ Some x
          back f k c =
              let g = sources_forward G nest.root nest.inner l.body (rows flow.sources.items) sources p.0 k c in
              past_is k r g.0 ∙ f (at l.body k) (subst (λ w. IsForwardIn N l.body (at l.body k) w) p.2 g.1)
      go false t p = (λ e. absurd (let q = sym (beyond v r t) ∙ e in cc), λ f. absurd (none f (some_source G ls nest l among v h ne)))
        where
          none : ((u : ℕ) → IsForwardIn N l.body u v → fact_after B u (fact_at points u) r ≡ Some x) → (u : ℕ) × IsForwardIn N l.body u v → ⊥
          none f s = let q = sym (unwritten s.0) ∙ f s.0 s.1 in absurd (cc)
            where
              unwritten : (u : ℕ) → fact_after B u (fact_at points u) r ≡ None
              unwritten u = ap (λ b. if b then written_fact u (B.instr u) (B.cells.uses u) r (fact_at points u) else fact_at points u r) (none_beyond (B.instr u) (C.uses u) r (few.uses u) (high_of r 48 t)) ∙ beyond u r t

  pub facts_right : AreFacts N B l (fact_at points)
  facts_right = record { header = header_right; lost = lost_right; met = met_right }

count_by : (points : List Values) (body : List ℕ) → map (λ (v : Values). v.at) points ≡ body → length points ≡ length body
count_by points body e = sym (length-map points (λ (v : Values). v.at)) ∙ ap length e

module _ (G : Graph) (C : CellMap) (ls : List Level) (nest : AreNest G ls) (l : Level) (among : In ls l) (flow : Flow) (is_flow : IsFlow G C ls l.body flow) (points : List Values) (ats : map (λ (v : Values). v.at) points ≡ l.body) where
  pub place_fits : (i : ℕ) → i < length flow.order.items → get_or flow.order.items i 0 < length l.body
  place_fits i m = let w = is_flow.order.order.within i m in let c = is_flow.sources.count in omega arith

  pub sources_fit : (p k : ℕ) → Contains (row_at (rows flow.sources.items) p) k → k < length points
  sources_fit p k c = let w = row_within G ls nest l among C flow is_flow p k c in let n = count_by points l.body ats in omega arith

  pub some_fits : (p : ℕ) → p < length l.body → (values_at points p).at ≢ l.header → 1 ≤ length (row_at (rows flow.sources.items) p)
  some_fits p m ne =
      let n = count_by points l.body ats in
      let here : (values_at points p).at ≡ at l.body p = sym (get_or-map (λ (v : Values). v.at) points p nothing_known 0 (omega arith)) ∙ ap (λ xs. get_or xs p 0) ats in
      row_some G ls nest l among C flow is_flow p m (λ e. ne (here ∙ e))

  pub rows_fit : length (rows flow.sources.items) ≡ length points
  rows_fit = is_flow.sources.count ∙ sym (count_by points l.body ats)

  pub uses_fit : length flow.uses.items ≡ length points
  uses_fit = ap length is_flow.uses ∙ length-map l.body C.uses ∙ sym (count_by points l.body ats)

  pub instrs_fit : length flow.instrs.items ≡ length points
  instrs_fit = ap length is_flow.instrs ∙ length-map l.body (instr_among G.words) ∙ sym (count_by points l.body ats)

-- what the points are in the end, for the loop at its place among the levels
pub facts_in_end : (G : Graph) (C : CellMap) → AreFew C → (ls : List Level) (nest : AreNest G ls) (level : ℕ) → level < length ls → (l : Level) → get_or ls level l ≡ l → (flow : Flow) → IsFlow G C ls l.body flow → (points : List Values) → map (λ (v : Values). v.at) points ≡ l.body
    → (n : ℕ) → n ≡ length flow.order.items → ((j : ℕ) → j < n → IsPlace (code_of G C) ls l.header flow points (get_or flow.order.items j 0)) → AreFactsOf G ls C level points
facts_in_end G C few ls nest level within l here flow is_flow points ats n last right = record { words = λ m e. ats ∙ ap (λ (z : Level). z.body) (same m e); facts = facts }
  where
    same : (m : Level) → get_or ls level m ≡ m → l ≡ m
    same m e = sym here ∙ get_or_default ls level l m within ∙ e

    all : (p : ℕ) → p < length l.body → IsPlace (code_of G C) ls l.header flow points p
    all p m =
        let c = is_flow.order.every p (let k = is_flow.sources.count in omega arith) in
        let a = c.1 in
        subst (λ q. IsPlace (code_of G C) ls l.header flow points q) (get_or_default flow.order.items c.0 0 p c.1 ∙ c.2) (right c.0 (omega arith))

    facts : (N : Nest) (m : Level) → IsNestOf G ls N → get_or ls level m ≡ m → AreFacts N (code_of G C) m (fact_at points)
    facts N m is e =
        let q : is.root ∷ is.inner ≡ nest.root ∷ nest.inner = sym is.are ∙ nest.are in
        let r : is.root ≡ nest.root = cc in
        let i : is.inner ≡ nest.inner = cc in
        let k : nest_of G nest.root nest.inner ≡ N = ap (λ x. nest_of G x nest.inner) (sym r) ∙ ap (λ x. nest_of G is.root x) (sym i) ∙ sym is.is in
        subst (λ (z : Level). AreFacts N (code_of G C) z (fact_at points)) (same m e)
        (subst (λ M. AreFacts M (code_of G C) l (fact_at points)) k (facts_right G C ls nest l (listed_in ls level l within here) flow is_flow points ats all few))

-- the cells of a loop
pub few_of : (c : Cells) → AreNumbered c → AreFew (cell_map c)
few_of c n = record { cells = λ k l. none_at c.list.items k (let f = n.few in omega arith); uses = λ u k e. let l = below c.uses.items n.numbers u k e in let f = n.few in omega arith }
  where
    none_at : (cs : List Cell) (k : ℕ) → length cs ≤ k → cell_at cs k ≡ None
    none_at [] k l = refl
    none_at (x ∷ xs) zero l = absurd (omega arith)
    none_at (x ∷ xs) (suc k) l = none_at xs k (omega arith)

    below : (us : List (ℕ × ℕ)) → All (λ (u : ℕ × ℕ). u.1 < length c.list.items) us → (u k : ℕ) → use_of us u ≡ Some k → k < length c.list.items
    below [] all u k e = absurd (cc)
    below (x ∷ xs) all u k e = go (x.0 == u) e (below xs (λ j d l. all (suc j) d (omega arith)) u k)
      where
        go : (b : Bool) → (if b then Some x.1 else use_of xs u) ≡ Some k → (use_of xs u ≡ Some k → k < length c.list.items) → k < length c.list.items
        go true q later = let y : x.1 ≡ k = cc in subst (λ z. z < length c.list.items) y (all 0 x (omega arith))
        go false q later = later q
