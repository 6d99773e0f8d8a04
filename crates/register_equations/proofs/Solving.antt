-- Forms that are right place by place solve the equations.
use Rattle.std.proofs.Common.{◌≡◌, ◌≢◌, ℕ, zero, suc, ◌-◌, ◌<◌, ◌≤◌, ◌⊎◌, ◌↔◌, inl, inr, ◌==◌, Bool, true, false, if◌then◌else◌, nat_lt, List, [], ◌∷◌, length, map, get_or, Option, Some, None, refl, ap, sym, ◌∙◌, subst, arith, ℤ, pos}
use Rattle.std.specs.List.{All, Contains}
use Rattle.std.proofs.lemmas.Bool.{cases_eq}
use Rattle.std.proofs.lemmas.Bool.Decides.{nat_tests}
use Rattle.std.proofs.lemmas.List.{get_or_default, get_or-map, length-map}
use Rattle.std.proofs.lemmas.List.Kept.{AllPairs-from_increasing}
use Rattle.std.proofs.lemmas.List.Elements.{Contains-get_or}
use Rattle.rv64_decode.specs.declared.instr.Instr.{Instr}
use Rattle.linear_forms.specs.Forms.{LinearForm, stride, moving, pure}
use Rattle.loop_data.specs.declared.classes.Classes.{Classes}
use Rattle.loop_data.specs.Points.{Point, no_forms, point_at}
use Rattle.loop_data.specs.declared.flow.Flow.{Flow}
use Rattle.loop_data.specs.declared.graph.Graph.{Graph}
use Rattle.loop_data.specs.declared.shape.Level.{Level}
use Rattle.loop_data.specs.Nests.{Nest, has, nest_of, In, levels, Among, Holds}
use Rattle.loop_data.specs.LoopWords.{AreNest}
use Rattle.loop_data.specs.Locations.{CellMap, cell_at, first_cell}
use Rattle.loop_data.specs.LoopCode.{LoopCode, instr_among, code_of, is_location, IsForwardIn}
use Rattle.loop_data.specs.Independent.{Role, Keeps, Moves, Private}
use Rattle.loop_data.specs.FormRows.{form_after, written_form}
use Rattle.loop_data.specs.Equations.{entry_form, with_step, header_form, Carries, Arrives, Meets, HeadsNone, AreForms}
use Rattle.loop_data.specs.Flows.{rows, row_at, at, HasSources, IsFlow}
use Rattle.loop_data.specs.Lookups.{form_at, roles_by, AreFew}
use Rattle.loop_data.proofs.Tests.{is_eq, is_ne, true_or_false, yes_no, not_true}
use Rattle.loop_data.proofs.Steps.{contains_has}
use Rattle.loop_data.proofs.Strides.{Without, without_after}
use Rattle.loop_data.proofs.FlowEdges.{sources_forward, forward_sources, place_of_word, listed_in}
use Rattle.loop_data.proofs.ValuePlaces.{none_beyond, some_source}
use Rattle.register_equations.specs.Rows.{forms_in}
use Rattle.register_equations.specs.States.{code_with, past, IsKept, Comes, IsMet, IsHeaderForm, AreFormsAt, IsFormPlace}

low_of : (r n : ℕ) → nat_lt r n ≡ true → r < n
low_of r n e = grind (arith, nat_tests)

high_of : (r n : ℕ) → nat_lt r n ≡ false → n ≤ r
high_of r n e = grind (arith, nat_tests)

not_low : (r n : ℕ) → n ≤ r → nat_lt r n ≡ false
not_low r n l = grind (arith, nat_tests)

past_end : (xs : List (Option LinearForm)) (r : ℕ) → length xs ≤ r → forms_in xs r ≡ None
past_end [] r l = refl
past_end (x ∷ xs) zero l = absurd (omega arith)
past_end (x ∷ xs) (suc r) l = past_end xs r (omega arith)

all_in : (P : Level → Type 0) (ls : List Level) (l : Level) → All P ls → In ls l → P l
all_in P [] l a i = absurd i
all_in P (x ∷ xs) l a (inl e) = subst P e (a 0 x (omega arith))
all_in P (x ∷ xs) l a (inr i) = all_in P xs l (λ j d lt. a (suc j) d (omega arith)) i

contains_level : (ls : List Level) (l : Level) → In ls l → Contains ls l
contains_level [] l i = absurd i
contains_level (x ∷ xs) l (inl e) = (0, omega arith, e)
contains_level (x ∷ xs) l (inr i) = let c = contains_level xs l i in (suc c.0, omega arith, c.2)

in_level : (ls : List Level) (l : Level) → Contains ls l → In ls l
in_level ls l c = listed_in ls c.0 l c.1 c.2

-- the point at a place is that of its address
pub at_by : (points : List Point) (k : ℕ) → ((i j : ℕ) → i < j → j < length points → (point_at points i).at < (point_at points j).at) → k < length points → form_at points (point_at points k).at ≡ forms_in (point_at points k).forms
at_by [] k up l = absurd (omega arith)
at_by (v ∷ vs) zero up l = ap (λ (b : Bool). λ (r : ℕ). if b then get_or v.forms r None else form_at vs v.at r) (is_eq v.at v.at refl)
at_by (v ∷ vs) (suc k) up l =
    let lt : v.at < (point_at vs k).at = up 0 (suc k) (omega arith) l in
    ap (λ (b : Bool). λ (r : ℕ). if b then get_or v.forms r None else form_at vs (point_at vs k).at r) (is_ne v.at (point_at vs k).at (λ e. omega arith))
    ∙ at_by vs k (λ i j a b. up (suc i) (suc j) (omega arith) (omega arith)) (omega arith)

-- a loop of a depth that holds a word, if there is one
holder : (ls : List Level) (d u : ℕ) → ((l : Level) × In ls l × (l.depth ≡ d) × Holds l u) ⊎ ((l : Level) → In ls l → l.depth ≡ d → has l.body u ≡ false)
holder [] d u = inr (λ l i. absurd i)
holder (x ∷ xs) d u = go (cases_eq x.depth d) (true_or_false (has x.body u)) (holder xs d u)
  where
    later : (((l : Level) × In xs l × (l.depth ≡ d) × Holds l u) ⊎ ((l : Level) → In xs l → l.depth ≡ d → has l.body u ≡ false)) → (x.depth ≡ d → has x.body u ≡ false)
        → ((l : Level) × In (x ∷ xs) l × (l.depth ≡ d) × Holds l u) ⊎ ((l : Level) → In (x ∷ xs) l → l.depth ≡ d → has l.body u ≡ false)
    later (inl a) f = inl (a.0, inr a.1, a.2, a.3)
    later (inr g) f = inr none
      where
        none : (l : Level) → (x ≡ l) ⊎ In xs l → l.depth ≡ d → has l.body u ≡ false
        none l (inl e) q = ap (λ (z : Level). has z.body u) (sym e) ∙ f (ap (λ (z : Level). z.depth) e ∙ q)
        none l (inr i) q = g l i q

    go : (x.depth ≡ d) ⊎ (x.depth ≢ d) → (has x.body u ≡ true) ⊎ (has x.body u ≡ false) → (((l : Level) × In xs l × (l.depth ≡ d) × Holds l u) ⊎ ((l : Level) → In xs l → l.depth ≡ d → has l.body u ≡ false))
        → ((l : Level) × In (x ∷ xs) l × (l.depth ≡ d) × Holds l u) ⊎ ((l : Level) → In (x ∷ xs) l → l.depth ≡ d → has l.body u ≡ false)
    go (inl e) (inl h) r = inl (x, inl refl, e, h)
    go (inl e) (inr h) r = later r (λ q. h)
    go (inr e) h r = later r (λ q. absurd (e q))

stride_step : (f : LinearForm) (k d : ℕ) (z : ℤ) → d ≢ k → stride (with_step f k z) d ≡ stride f d
stride_step f zero zero z ne = absurd (ne refl)
stride_step f zero (suc zero) z ne = refl
stride_step f zero (suc (suc zero)) z ne = refl
stride_step f zero (suc (suc (suc d))) z ne = refl
stride_step f (suc zero) zero z ne = refl
stride_step f (suc zero) (suc zero) z ne = absurd (ne refl)
stride_step f (suc zero) (suc (suc zero)) z ne = refl
stride_step f (suc zero) (suc (suc (suc d))) z ne = refl
stride_step f (suc (suc zero)) zero z ne = refl
stride_step f (suc (suc zero)) (suc zero) z ne = refl
stride_step f (suc (suc zero)) (suc (suc zero)) z ne = absurd (ne refl)
stride_step f (suc (suc zero)) (suc (suc (suc d))) z ne = refl
stride_step f (suc (suc (suc k))) d z ne = refl

header_free : (k : ℕ) (c : Role) (o : Option LinearForm) (g : LinearForm) (d : ℕ) → header_form k c o ≡ Some g → d ≢ k → Without d o → stride g d ≡ pos 0
header_free k Keeps o g d e ne w = w g e
header_free k (Moves step) (Some f) g d e ne w = let q : with_step f k step ≡ g = cc in ap (λ (h : LinearForm). stride h d) (sym q) ∙ stride_step f k d step ne ∙ w f refl
header_free k (Moves step) None g d e ne w = absurd (cc)
header_free k Private o g d e ne w = absurd (cc)

header_none : (k : ℕ) (c : Role) → header_form k c None ≡ None
header_none k Keeps = refl
header_none k (Moves step) = refl
header_none k Private = refl

stride_entry : (r d : ℕ) → stride (moving r (pos 0)) d ≡ pos 0
stride_entry r zero = refl
stride_entry r (suc zero) = refl
stride_entry r (suc (suc zero)) = refl
stride_entry r (suc (suc (suc d))) = refl

stride_pure : (z : ℤ) (d : ℕ) → stride (pure z) d ≡ pos 0
stride_pure z zero = refl
stride_pure z (suc zero) = refl
stride_pure z (suc (suc zero)) = refl
stride_pure z (suc (suc (suc d))) = refl

entry_free : (B : LoopCode) (r d : ℕ) → Without d (entry_form B r)
entry_free B r d = go (r == 0) (is_location B r)
  where
    go : (a b : Bool) → Without d (if a then Some (pure (pos 0)) else if b then Some (moving r (pos 0)) else None)
    go true b f e = let q : pure (pos 0) ≡ f = cc in ap (λ (h : LinearForm). stride h d) (sym q) ∙ stride_pure (pos 0) d
    go false true f e = let q : moving r (pos 0) ≡ f = cc in ap (λ (h : LinearForm). stride h d) (sym q) ∙ stride_entry r d
    go false false f e = absurd (cc)

entry_beyond : (G : Graph) (C : CellMap) → AreFew C → (r : ℕ) → 48 ≤ r → entry_form (code_of G C) r ≡ None
entry_beyond G C few r l =
    let a : (r == 0) ≡ false = is_ne r 0 (λ e. omega arith) in
    let b : nat_lt r first_cell ≡ false = not_low r first_cell (omega arith) in
    let c : cell_at C.cells (r - first_cell) ≡ None = few.cells (r - first_cell) (omega arith) in
    rw a (rw b (rw c refl))

module _ (G : Graph) (C : CellMap) (few : AreFew C) (ls : List Level) (nest : AreNest G ls) (c : Classes) (flow : Flow) (ps : List Point) (f : IsFlow G C ls nest.root.body flow) (words : map (λ (p : Point). p.at) ps ≡ nest.root.body)
    (right : (j : ℕ) → j < length flow.order.items → IsFormPlace (code_of G C) ls nest.inner nest.root c flow ps (get_or flow.order.items j 0)) where
  abbrev pub N : Nest
  N = nest_of G nest.root nest.inner

  abbrev pub B : LoopCode
  B = code_of G C

  abbrev body : List ℕ
  body = nest.root.body

  abbrev R : List (List ℕ)
  R = rows flow.sources.items

  abbrev F : ℕ → ℕ → Option LinearForm
  F = form_at ps

  src : HasSources G (nest.root ∷ nest.inner) body (length body) R
  src = subst (λ (xs : List Level). HasSources G xs body (length body) R) nest.are f.sources

  count : length ps ≡ length body
  count = sym (length-map ps (λ (p : Point). p.at)) ∙ ap (λ (xs : List ℕ). length xs) words

  at_place : (k : ℕ) → k < length body → (point_at ps k).at ≡ at body k
  at_place k l = sym (get_or-map (λ (p : Point). p.at) ps k no_forms 0 (let n = count in omega arith)) ∙ ap (λ (xs : List ℕ). get_or xs k 0) words

  form_place : (k : ℕ) → k < length body → F (at body k) ≡ forms_in (point_at ps k).forms
  form_place k l = ap F (sym (at_place k l)) ∙ at_by ps k rise (let n = count in omega arith)
    where
      rise : (i j : ℕ) → i < j → j < length ps → (point_at ps i).at < (point_at ps j).at
      rise i j lt m =
          let n = count in
          let p = AllPairs-from_increasing body (nest.ordered nest.root (inl refl)) i j 0 lt (omega arith) in
          let a = at_place i (omega arith) in
          let b = at_place j (omega arith) in
          omega arith

  instr_place : (k : ℕ) → k < length body → get_or flow.instrs.items k None ≡ instr_among G.words (at body k)
  instr_place k l = ap (λ (xs : List (Option Instr)). get_or xs k None) f.instrs ∙ get_or-map (instr_among G.words) body k 0 None l

  use_place : (k : ℕ) → k < length body → get_or flow.uses.items k None ≡ C.uses (at body k)
  use_place k l = ap (λ (xs : List (Option ℕ)). get_or xs k None) f.uses ∙ get_or-map C.uses body k 0 None l

  past_is : (k r : ℕ) → k < length body → past flow ps k r ≡ form_after B (at body k) (F (at body k)) r
  past_is k r l =
      let i = instr_among G.words (at body k) in
      let u = C.uses (at body k) in
      ap (λ (j : Option Instr). form_after (code_with j (get_or flow.uses.items k None)) (point_at ps k).at (forms_in (point_at ps k).forms) r) (instr_place k l)
      ∙ ap (λ (j : Option ℕ). form_after (code_with i j) (point_at ps k).at (forms_in (point_at ps k).forms) r) (use_place k l)
      ∙ ap (λ v. form_after (code_with i u) v (forms_in (point_at ps k).forms) r) (at_place k l)
      ∙ ap (λ (H : ℕ → Option LinearForm). form_after (code_with i u) (at body k) H r) (sym (form_place k l))

  has_place : (k : ℕ) → k < length body → has body (at body k) ≡ true
  has_place k l = contains_has body (at body k) (Contains-get_or body k 0 l)

  arriving : (k p r : ℕ) (g : LinearForm) → k < length body → p < length body → Comes nest.inner flow ps k (at body p) r g → Arrives N B F (at body k) (at body p) r g
  arriving k p r g lk lp m = record { after = sym (past_is k r lk) ∙ m.after; carries = carries }
    where
      carries : Carries N (at body k) (at body p) g
      carries l (inl e) hu hv = absurd (yes_no _ (subst (λ (z : Level). has z.body (at body p) ≡ true) e (has_place p lp)) hv)
      carries l (inr i) hu hv = all_in (IsKept (point_at ps k).at (at body p) g) nest.inner l m.kept i (subst (λ u. Holds l u) (sym (at_place k lk)) hu) hv

  coming : (k p r : ℕ) (g : LinearForm) → k < length body → Arrives N B F (at body k) (at body p) r g → Comes nest.inner flow ps k (at body p) r g
  coming k p r g lk a =
      record {
        after = past_is k r lk ∙ a.after;
        kept = λ i d l. λ hu hv. a.carries (get_or nest.inner i d) (inr (listed_in nest.inner i (get_or nest.inner i d) l (sym (get_or_default nest.inner i d (get_or nest.inner i d) l)))) (subst (λ u. Holds (get_or nest.inner i d) u) (at_place k lk) hu) hv;
      }

  met_iff : (p r : ℕ) (o : Option LinearForm) → p < length body → IsMet nest.inner flow ps (row_at R p) (at body p) r o → (g : LinearForm) → (o ≡ Some g) ↔ Meets N B F (at body p) r g
  met_iff p r o lp m g = (λ e. forth ((m g).0 e), λ h. (m g).1 (back h))
    where
      forth : All (λ k. Comes nest.inner flow ps k (at body p) r g) (row_at R p) → Meets N B F (at body p) r g
      forth a u w =
          let q = place_of_word body u w.edge.from in
          let cont = forward_sources G nest.root nest.inner body R src p q.0 q.1 lp (subst (λ z. IsForwardIn N body z (at body p)) (sym q.2) w) in
          let k = subst (λ z. Comes nest.inner flow ps z (at body p) r g) cont.2 (a cont.0 q.0 cont.1) in
          subst (λ z. Arrives N B F z (at body p) r g) q.2 (arriving q.0 p r g q.1 lp k)

      back : Meets N B F (at body p) r g → All (λ k. Comes nest.inner flow ps k (at body p) r g) (row_at R p)
      back h i d l =
          let k = get_or (row_at R p) i d in
          let s = sources_forward G nest.root nest.inner body R src p k (i, l, get_or_default (row_at R p) i k d l) in
          coming k p r g s.0 (h (at body k) s.1)

  -- where each place stands in the order
  ordered : (p : ℕ) → p < length body → (j : ℕ) × (j < length flow.order.items) × (get_or flow.order.items j 0 ≡ p)
  ordered p l = let e = src.count in let q = f.order.every p (omega arith) in (q.0, q.1, get_or_default flow.order.items q.0 0 p q.1 ∙ q.2)

  state : (p : ℕ) → p < length body → AreFormsAt B ls nest.inner nest.root c flow ps (row_at R p) (at body p) (point_at ps p).forms
  state p l =
      let j = ordered p l in
      let s = subst (λ q. IsFormPlace B ls nest.inner nest.root c flow ps q) j.2 (right j.0 j.1) in
      subst (λ v. AreFormsAt B ls nest.inner nest.root c flow ps (row_at R p) v (point_at ps p).forms) (at_place p l) s

  beyond : (p r : ℕ) → p < length body → 48 ≤ r → F (at body p) r ≡ None
  beyond p r l m = ap (λ (H : ℕ → Option LinearForm). H r) (form_place p l) ∙ past_end (point_at ps p).forms r (let n = (state p l).count in omega arith)

  after_beyond : (k r : ℕ) → k < length body → 48 ≤ r → form_after B (at body k) (F (at body k)) r ≡ None
  after_beyond k r l m =
      ap (λ b. if b then written_form (at body k) (B.instr (at body k)) (C.uses (at body k)) r (F (at body k)) else F (at body k) r) (none_beyond (B.instr (at body k)) (C.uses (at body k)) r (few.uses (at body k)) m) ∙ beyond k r l m

  -- a word that an edge leads from to place p, earlier in the order
  record Source (p : ℕ) : Type 0 where
    pub place : ℕ
    pub within : place < length body
    pub forward : IsForwardIn N body (at body place) (at body p)
    pub among : Contains (row_at R p) place

  source : (p : ℕ) → p < length body → at body p ≢ nest.root.header → Source p
  source p l ne =
      let s = some_source G ls nest nest.root (subst (λ (xs : List Level). In xs nest.root) (sym nest.are) (inl refl)) (at body p) (has_place p l) ne in
      let q = place_of_word body s.0 s.1.edge.from in
      let w = subst (λ z. IsForwardIn N body z (at body p)) (sym q.2) s.1 in
      record { place = q.0; within = q.1; forward = w; among = forward_sources G nest.root nest.inner body R src p q.0 q.1 l w }

  none_meets : (p r : ℕ) → p < length body → at body p ≢ nest.root.header → 48 ≤ r → (g : LinearForm) → (None ≡ Some g) ↔ Meets N B F (at body p) r g
  none_meets p r l ne m g = (λ e. absurd (cc), λ h. let s = source p l ne in sym (after_beyond s.place r s.within m) ∙ (h (at body s.place) s.forward).after)

  -- a form at this word has strides of the loops round it alone
  abbrev FreeAt : ℕ → Type 0
  FreeAt v = (r : ℕ) (g : LinearForm) (d : ℕ) → F v r ≡ Some g → ((l : Level) → Among N l → l.depth ≡ d → has l.body v ≡ false) → stride g d ≡ pos 0

  arrive_free : (u v r d : ℕ) (g : LinearForm) → Arrives N B F u v r g → FreeAt u → ((l : Level) → Among N l → l.depth ≡ d → Holds l u → has l.body v ≡ false) → stride g d ≡ pos 0
  arrive_free u v r d g a free left = by (holder (levels N) d u)
    where
      by : ((l : Level) × In (levels N) l × (l.depth ≡ d) × Holds l u) ⊎ ((l : Level) → In (levels N) l → l.depth ≡ d → has l.body u ≡ false) → stride g d ≡ pos 0
      by (inl h) = subst (λ k. stride g k ≡ pos 0) h.2 (a.carries h.0 h.1 h.3 (left h.0 h.1 h.2 h.3))
      by (inr none) = without_after B u d (F u) (λ q g e. free q g d e none) r g a.after

  root_depth : nest.root.depth ≡ 0
  root_depth = nest.nest.bodies.outermost

  root_is : (p : ℕ) → p < length body → at body p ≡ nest.root.header → (r : ℕ) → F (at body p) r ≡ header_form nest.root.depth (roles_by B ls c nest.root r) (entry_form B r)
  root_is p l e r = by (nat_lt r 48) refl
    where
      by : (b : Bool) → nat_lt r 48 ≡ b → F (at body p) r ≡ header_form nest.root.depth (roles_by B ls c nest.root r) (entry_form B r)
      by true t =
          let h = (state p l).first e r (low_of r 48 t) in
          let o = h.met in
          ap (λ (H : ℕ → Option LinearForm). H r) (form_place p l)
          ∙ h.is (subst (λ (x : Option LinearForm). Without nest.root.depth x) (sym o) (entry_free B r nest.root.depth))
          ∙ ap (λ (x : Option LinearForm). header_form nest.root.depth (roles_by B ls c nest.root r) x) o
      by false t =
          let m = high_of r 48 t in
          beyond p r l m ∙ sym (header_none nest.root.depth (roles_by B ls c nest.root r)) ∙ ap (λ (x : Option LinearForm). header_form nest.root.depth (roles_by B ls c nest.root r) x) (sym (entry_beyond G C few r m))

  -- the sources of a place are right
  abbrev AreFreeBefore : ℕ → Type 0
  AreFreeBefore p = (k : ℕ) → k < length body → Contains (row_at R p) k → FreeAt (at body k)

  -- what comes from outside an inner loop has no stride of it
  inner_free : (p : ℕ) (l : Level) → p < length body → at body p ≢ nest.root.header → In nest.inner l → at body p ≡ l.header → AreFreeBefore p → (r : ℕ) (o : Option LinearForm) → ((g : LinearForm) → (o ≡ Some g) ↔ Meets N B F (at body p) r g) → Without l.depth o
  inner_free p l lp ne i e free r o iff g q =
      let s = source p lp ne in
      arrive_free (at body s.place) (at body p) r l.depth g ((iff g).0 q (at body s.place) s.forward) (free s.place s.within s.among) (λ m j d hu. not_true (has m.body (at body p)) (λ hv.
      let here : Holds l (at body p) = subst (λ z. Holds l z) (sym e) (nest.nest.bodies.header l (inr i)) in
      let same : m ≡ l = nest.nest.bodies.alone m l j (inr i) d (at body p) hv here in
      s.forward.closes l (inr i) (subst (λ (z : Level). Holds z (at body s.place)) same hu) e))

  -- the form at an inner header, out of what comes from outside
  abbrev IsEnteredAt : ℕ → Level → ℕ → Type 0
  IsEnteredAt v l r = (o : Option LinearForm) × (F v r ≡ header_form l.depth (roles_by B ls c l r) o) × ((g : LinearForm) → (o ≡ Some g) ↔ Meets N B F v r g)

  inner_is : (p : ℕ) (l : Level) → p < length body → at body p ≢ nest.root.header → In nest.inner l → at body p ≡ l.header → AreFreeBefore p → (r : ℕ) → IsEnteredAt (at body p) l r
  inner_is p l lp ne i e free r = by (nat_lt r 48) refl ((state p lp).other ne)
    where
      found : (m : Level) → Contains nest.inner m → at body p ≡ m.header → m ≡ l
      found m k q =
          let j = in_level nest.inner m k in
          let hm : Holds l m.header = subst (λ z. Holds l z) (sym e ∙ q) (nest.nest.bodies.header l (inr i)) in
          let hl : Holds m l.header = subst (λ z. Holds m z) (sym q ∙ e) (nest.nest.bodies.header m (inr j)) in
          nest.nest.bodies.apart m l (inr j) (inr i) hm hl

      low : r < 48 → IsHeaderForm B ls c l (IsMet nest.inner flow ps (row_at R p) (at body p) r) r (forms_in (point_at ps p).forms r) → IsEnteredAt (at body p) l r
      low lt h =
          let iff = met_iff p r h.outside lp h.met in
          (h.outside, ap (λ (H : ℕ → Option LinearForm). H r) (form_place p lp) ∙ h.is (inner_free p l lp ne i e free r h.outside iff), iff)

      by : (b : Bool) → nat_lt r 48 ≡ b → ((m : Level) × Contains nest.inner m × (at body p ≡ m.header)
          × ((q : ℕ) → q < 48 → IsHeaderForm B ls c m (IsMet nest.inner flow ps (row_at R p) (at body p) q) q (forms_in (point_at ps p).forms q)))
          ⊎ (((m : Level) → Contains nest.inner m → at body p ≢ m.header)
          × ((q : ℕ) → q < 48 → IsMet nest.inner flow ps (row_at R p) (at body p) q (forms_in (point_at ps p).forms q)))
          → IsEnteredAt (at body p) l r
      by true t (inl a) = low (low_of r 48 t) (subst (λ (m : Level). IsHeaderForm B ls c m (IsMet nest.inner flow ps (row_at R p) (at body p) r) r (forms_in (point_at ps p).forms r)) (found a.0 a.1 a.2) (a.3 r (low_of r 48 t)))
      by true t (inr a) = absurd (a.0 l (contains_level nest.inner l i) e)
      by false t a =
          let m = high_of r 48 t in
          (None, beyond p r lp m ∙ sym (header_none l.depth (roles_by B ls c l r)), none_meets p r lp ne m)

  -- elsewhere what meets stands
  plain_is : (p r : ℕ) (g : LinearForm) → p < length body → at body p ≢ nest.root.header → ((l : Level) → In nest.inner l → at body p ≢ l.header) → (F (at body p) r ≡ Some g) ↔ Meets N B F (at body p) r g
  plain_is p r g lp ne none = by (nat_lt r 48) refl ((state p lp).other ne)
    where
      by : (b : Bool) → nat_lt r 48 ≡ b → ((m : Level) × Contains nest.inner m × (at body p ≡ m.header)
          × ((q : ℕ) → q < 48 → IsHeaderForm B ls c m (IsMet nest.inner flow ps (row_at R p) (at body p) q) q (forms_in (point_at ps p).forms q)))
          ⊎ (((m : Level) → Contains nest.inner m → at body p ≢ m.header)
          × ((q : ℕ) → q < 48 → IsMet nest.inner flow ps (row_at R p) (at body p) q (forms_in (point_at ps p).forms q)))
          → (F (at body p) r ≡ Some g) ↔ Meets N B F (at body p) r g
      by b t (inl a) = absurd (none a.0 (in_level nest.inner a.0 a.1) a.2)
      by true t (inr a) = subst (λ (x : Option LinearForm). (x ≡ Some g) ↔ Meets N B F (at body p) r g) (sym (ap (λ (H : ℕ → Option LinearForm). H r) (form_place p lp))) (met_iff p r (forms_in (point_at ps p).forms r) lp (a.1 r (low_of r 48 t)) g)
      by false t (inr a) = subst (λ (x : Option LinearForm). (x ≡ Some g) ↔ Meets N B F (at body p) r g) (sym (beyond p r lp (high_of r 48 t))) (none_meets p r lp ne (high_of r 48 t) g)

  -- the inner loop with this header, if there is one
  headed : (is : List Level) (v : ℕ) → ((l : Level) × In is l × (v ≡ l.header)) ⊎ ((l : Level) → In is l → v ≢ l.header)
  headed [] v = inr (λ l i. absurd i)
  headed (x ∷ xs) v = go (cases_eq v x.header) (headed xs v)
    where
      go : (v ≡ x.header) ⊎ (v ≢ x.header) → ((l : Level) × In xs l × (v ≡ l.header)) ⊎ ((l : Level) → In xs l → v ≢ l.header) → ((l : Level) × In (x ∷ xs) l × (v ≡ l.header)) ⊎ ((l : Level) → In (x ∷ xs) l → v ≢ l.header)
      go (inl e) later = inl (x, inl refl, e)
      go (inr ne) (inl a) = inl (a.0, inr a.1, a.2)
      go (inr ne) (inr g) = inr none
        where
          none : (l : Level) → (x ≡ l) ⊎ In xs l → v ≢ l.header
          none l (inl e) q = ne (q ∙ sym (ap (λ (z : Level). z.header) e))
          none l (inr i) q = g l i q

  -- a place is free where its sources are
  place_free : (p : ℕ) → p < length body → AreFreeBefore p → FreeAt (at body p)
  place_free p lp free r g d e out = by (cases_eq (at body p) nest.root.header)
    where
      root : at body p ≡ nest.root.header → stride g d ≡ pos 0
      root q =
          let ne : d ≢ nest.root.depth = λ k. yes_no _ (has_place p lp) (out nest.root (inl refl) (sym k)) in
          header_free nest.root.depth (roles_by B ls c nest.root r) (entry_form B r) g d (sym (root_is p lp q r) ∙ e) ne (entry_free B r d)

      along : at body p ≢ nest.root.header → (o : Option LinearForm) → ((h : LinearForm) → (o ≡ Some h) ↔ Meets N B F (at body p) r h) → Without d o
      along ne o iff h q =
          let s = source p lp ne in
          arrive_free (at body s.place) (at body p) r d h ((iff h).0 q (at body s.place) s.forward) (free s.place s.within s.among) (λ l i k hu. out l i k)

      inner : at body p ≢ nest.root.header → ((l : Level) × In nest.inner l × (at body p ≡ l.header)) ⊎ ((l : Level) → In nest.inner l → at body p ≢ l.header) → stride g d ≡ pos 0
      inner ne (inl a) =
          let l = a.0 in
          let x = inner_is p l lp ne a.1 a.2 free r in
          let away : d ≢ l.depth = λ k. yes_no _ (subst (λ z. Holds l z) (sym a.2) (nest.nest.bodies.header l (inr a.1))) (out l (inr a.1) (sym k)) in
          header_free l.depth (roles_by B ls c l r) x.0 g d (sym x.1 ∙ e) away (along ne x.0 x.2)
      inner ne (inr none) = along ne (F (at body p) r) (λ h. plain_is p r h lp ne none) g e

      by : (at body p ≡ nest.root.header) ⊎ (at body p ≢ nest.root.header) → stride g d ≡ pos 0
      by (inl q) = root q
      by (inr ne) = inner ne (headed nest.inner (at body p))

  -- all places are free, in their order
  order_free : (m j : ℕ) → j < m → j < length flow.order.items → FreeAt (at body (get_or flow.order.items j 0))
  order_free zero j lt l = absurd (omega arith)
  order_free (suc m) j lt l =
      let w : get_or flow.order.items j 0 < length body = let a = f.order.order.within j l in let e = src.count in omega arith in
      place_free (get_or flow.order.items j 0) w (λ k lk k_in.
      let q = f.order.order.after j k l k_in in
      let less = q.1 in
      subst (λ z. FreeAt (at body z)) q.2 (order_free m q.0 (omega arith) (omega arith)))

  all_free : (p : ℕ) → p < length body → FreeAt (at body p)
  all_free p l = let j = ordered p l in subst (λ z. FreeAt (at body z)) j.2 (order_free (suc j.0) j.0 (omega arith) j.1)

  -- what comes from outside each inner loop
  chosen : (l : Level) → (o : ℕ → Option LinearForm) × (In nest.inner l → ((r : ℕ) → F l.header r ≡ header_form l.depth (roles_by B ls c l r) (o r)) × ((r : ℕ) (g : LinearForm) → (o r ≡ Some g) ↔ Meets N B F l.header r g))
  chosen l = by (headed nest.inner l.header)
    where
      by : ((m : Level) × In nest.inner m × (l.header ≡ m.header)) ⊎ ((m : Level) → In nest.inner m → l.header ≢ m.header)
          → (o : ℕ → Option LinearForm) × (In nest.inner l → ((r : ℕ) → F l.header r ≡ header_form l.depth (roles_by B ls c l r) (o r)) × ((r : ℕ) (g : LinearForm) → (o r ≡ Some g) ↔ Meets N B F l.header r g))
      by (inr none) = (λ r. None, λ i. absurd (none l i refl))
      by (inl a) =
          let m = a.0 in
          let p = place_of_word body m.header (nest.nest.bodies.within m (inr a.1) m.header (nest.nest.bodies.header m (inr a.1))) in
          let ne : at body p.0 ≢ nest.root.header = λ q. nest.nest.bodies.inner_header m a.1 (sym p.2 ∙ q) in
          let x = inner_is p.0 m p.1 ne a.1 p.2 (λ k lk k_in. all_free k lk) in (
            λ r. (x r).0,
            λ i.
                let same : m ≡ l = nest.nest.bodies.apart m l (inr a.1) (inr i) (subst (λ z. Holds l z) a.2 (nest.nest.bodies.header l (inr i))) (subst (λ z. Holds m z) (sym a.2) (nest.nest.bodies.header m (inr a.1))) in (
                  λ r. subst (λ (z : Level). F z.header r ≡ header_form z.depth (roles_by B ls c z r) (x r).0) same (subst (λ v. F v r ≡ header_form m.depth (roles_by B ls c m r) (x r).0) p.2 (x r).1),
                  λ r g. subst (λ (z : Level). ((x r).0 ≡ Some g) ↔ Meets N B F z.header r g) same (subst (λ v. ((x r).0 ≡ Some g) ↔ Meets N B F v r g) p.2 ((x r).2 g)),
                ),
          )

  pub solved : AreForms N B (roles_by B ls c) F
  solved = record { outside = λ l. (chosen l).0; root = root; inner = λ l i. ((chosen l).1 i).0; entering = λ l i. ((chosen l).1 i).1; met = met }
    where
      root : (r : ℕ) → F nest.root.header r ≡ header_form 0 (roles_by B ls c nest.root r) (entry_form B r)
      root r =
          let p = place_of_word body nest.root.header (nest.nest.bodies.header nest.root (inl refl)) in
          subst (λ k. F nest.root.header r ≡ header_form k (roles_by B ls c nest.root r) (entry_form B r)) root_depth
          (subst (λ v. F v r ≡ header_form nest.root.depth (roles_by B ls c nest.root r) (entry_form B r)) p.2 (root_is p.0 p.1 p.2 r))

      met : (v r : ℕ) (g : LinearForm) → Holds nest.root v → HeadsNone N v → (F v r ≡ Some g) ↔ Meets N B F v r g
      met v r g h none =
          let p = place_of_word body v h in
          subst (λ z. (F z r ≡ Some g) ↔ Meets N B F z r g) p.2 (plain_is p.0 r g p.1 (λ e. none nest.root (inl refl) (sym p.2 ∙ e)) (λ l i e. none l (inr i) (sym p.2 ∙ e)))
