-- What is found of a nest is what its equations promise.
use Rattle.std.proofs.Common.{◌≡◌, ℕ, zero, suc, ◌+◌, ◌<◌, ◌≤◌, ◌⊎◌, inl, inr, Bool, true, false, if◌then◌else◌, nat_lt, List, [], ◌∷◌, length, map, get_or, Option, Some, None, IsTrue, ◌↔◌, refl, ap, sym, ◌∙◌, subst, arith, ℤ}
use Rattle.std.specs.List.{All, Any, Contains}
use Rattle.std.proofs.lemmas.Bool.{cases_lt}
use Rattle.std.proofs.lemmas.Bool.Decides.{nat_tests}
use Rattle.std.proofs.lemmas.List.{get_or_default, get_or-map, length-map}
use Rattle.std.proofs.lemmas.List.Elements.{Contains-get_or}
use Rattle.std.proofs.lemmas.List.Kept.{AllPairs-from_increasing}
use Rattle.std.specs.List.Sorted.{IsStrictlyIncreasing}
use Rattle.rv64_decode.specs.declared.instr.Instr.{Instr}
use Rattle.linear_forms.specs.Forms.{LinearForm}
use Rattle.linear_forms.specs.Locations.{number_of}
use Rattle.linear_forms.specs.declared.location.Loc.{Loc}
use Rattle.loop_data.specs.declared.classes.Class.{Class}
use Rattle.loop_data.specs.declared.classes.Class.TheVariants.{Induction, Private as PrivateClass}
use Rattle.loop_data.specs.declared.classes.Classes.{Classes}
use Rattle.loop_data.specs.declared.equations.Duty.{Duty}
use Rattle.loop_data.specs.declared.equations.Equations.{Equations}
use Rattle.loop_data.specs.Points.{Point, no_forms, point_at}
use Rattle.loop_data.specs.declared.flow.Flow.{Flow}
use Rattle.loop_data.specs.declared.graph.Graph.{Graph}
use Rattle.loop_data.specs.declared.shape.Level.{Level}
use Rattle.loop_data.specs.Nests.{Nest, has, nest_of, In, Among, Holds}
use Rattle.loop_data.specs.LoopWords.{AreNest}
use Rattle.loop_data.specs.Locations.{CellMap, instr_writes, writes_register, writes_cell, first_cell}
use Rattle.loop_data.specs.Independent.{Moves}
use Rattle.loop_data.specs.LoopCode.{LoopCode, code_of, writes, any_writes, instr_among}
use Rattle.loop_data.specs.Flows.{IsFlow}
use Rattle.loop_data.specs.FormRows.{form_after, duty, duty_from}
use Rattle.loop_data.specs.Equations.{plus_constant}
use Rattle.loop_data.specs.Lookups.{form_at, role_by, roles_by, classes_of, AreFew}
use Rattle.loop_data.specs.Results.{IsNestOf, IsUnconfirmed, IsLeastLocation, AreDuties, AreEquations}
use Rattle.loop_data.proofs.FlowEdges.{listed_in, place_of_word}
use Rattle.loop_data.proofs.Tests.{yes_no}
use Rattle.loop_data.proofs.Steps.{contains_has}
use Rattle.loop_data.proofs.ValuePlaces.{none_beyond}
use Rattle.register_equations.specs.Rows.{forms_in}
use Rattle.register_equations.specs.States.{code_with, past, owed_at, AreSolvedPoints, AreDutiesTo}
use Rattle.register_equations.specs.Astray.{IsAstray, IsLeastAstray}
use Rattle.register_equations.proofs.Solving.{at_by}
use Rattle.register_equations.proofs.DutyLists.{duties_right}

level_in : (ls : List Level) (l : Level) → In ls l → (k : ℕ) × (k < length ls) × (get_or ls k l ≡ l)
level_in [] l i = absurd i
level_in (x ∷ xs) l (inl e) = (0, omega arith, e)
level_in (x ∷ xs) l (inr i) = let c = level_in xs l i in (suc c.0, omega arith, c.2)

-- what a word writes is a register but x0, or a cell
some_register : (i : Instr) (r : ℕ) → writes_register i r ≡ true → 1 ≤ r
some_register i zero e = absurd (cc)
some_register i (suc r) e = omega arith

written_from : (i : Option Instr) (cell : Option ℕ) (r : ℕ) → instr_writes i cell r ≡ true → 1 ≤ r
written_from None cell r e = absurd (cc)
written_from (Some i) cell r e = go (nat_lt r first_cell) refl e
  where
    go : (b : Bool) → nat_lt r first_cell ≡ b → (if b then writes_register i r else writes_cell i cell r) ≡ true → 1 ≤ r
    go true l w = some_register i r w
    go false l w = grind (arith, nat_tests)

written_to : (i : Option Instr) (cell : Option ℕ) (r : ℕ) → ((k : ℕ) → cell ≡ Some k → k < 16) → instr_writes i cell r ≡ true → r < 48
written_to i cell r few e = by (cases_lt r 48)
  where
    by : (r < 48) ⊎ (48 ≤ r) → r < 48
    by (inl l) = l
    by (inr h) = absurd (yes_no _ e (none_beyond i cell r few h))

-- a class that tells how a location moves
moving_class : (b : Bool) (x : Option Class) (step : ℤ) → role_by b x ≡ Moves step → x ≡ Some (Induction step)
moving_class b (Some (Induction z)) step e = let q : z ≡ step = cc in ap (λ y. Some (Induction y)) q
moving_class b (Some PrivateClass) step e = absurd (cc)
moving_class true None step e = absurd (cc)
moving_class false None step e = absurd (cc)

module _ (G : Graph) (C : CellMap) (few : AreFew C) (ls : List Level) (nest : AreNest G ls) (classes : Classes) (flow : Flow) (flows : IsFlow G C ls nest.root.body flow) (ps : List Point) (solved : AreSolvedPoints G C ls classes ps) (N : Nest) (is : IsNestOf G ls N) where
  abbrev pub B : LoopCode
  B = code_of G C

  roots : is.root ∷ is.inner ≡ nest.root ∷ nest.inner
  roots = sym is.are ∙ nest.are

  same : N ≡ nest_of G nest.root nest.inner
  same = let q = roots in let r : is.root ≡ nest.root = cc in let i : is.inner ≡ nest.inner = cc in is.is ∙ ap (λ x. nest_of G x is.inner) r ∙ ap (λ x. nest_of G nest.root x) i

  root_is : N.root ≡ nest.root
  root_is = ap (λ (M : Nest). M.root) same

  words : map (λ (p : Point). p.at) ps ≡ N.root.body
  words = solved.words N is

  up : IsStrictlyIncreasing N.root.body
  up = subst (λ (l : Level). IsStrictlyIncreasing l.body) (sym root_is) (nest.ordered nest.root (inl refl))

  count : length ps ≡ length N.root.body
  count = sym (length-map ps (λ (p : Point). p.at)) ∙ ap length words

  at_place : (k : ℕ) → k < length ps → (point_at ps k).at ≡ get_or N.root.body k 0
  at_place k l = sym (get_or-map (λ (p : Point). p.at) ps k no_forms 0 l) ∙ ap (λ (xs : List ℕ). get_or xs k 0) words

  rise : (i j : ℕ) → i < j → j < length ps → (point_at ps i).at < (point_at ps j).at
  rise i j lt m =
      let n = count in
      let p = AllPairs-from_increasing N.root.body up i j 0 lt (omega arith) in
      let x = at_place i (omega arith) in
      let y = at_place j m in
      omega arith

  along : IsFlow G C ls N.root.body flow
  along = subst (λ (l : Level). IsFlow G C ls l.body flow) (sym root_is) flows

  -- what the flow says of a place
  instr_place : (k : ℕ) → k < length ps → get_or flow.instrs.items k None ≡ instr_among G.words (point_at ps k).at
  instr_place k l =
      ap (λ (xs : List (Option Instr)). get_or xs k None) along.instrs ∙ get_or-map (instr_among G.words) N.root.body k 0 None (let n = count in omega arith)
      ∙ ap (instr_among G.words) (sym (at_place k l))

  use_place : (k : ℕ) → k < length ps → get_or flow.uses.items k None ≡ C.uses (point_at ps k).at
  use_place k l =
      ap (λ (xs : List (Option ℕ)). get_or xs k None) along.uses ∙ get_or-map C.uses N.root.body k 0 None (let n = count in omega arith) ∙ ap C.uses (sym (at_place k l))

  writes_place : (k r : ℕ) → k < length ps → instr_writes (get_or flow.instrs.items k None) (get_or flow.uses.items k None) r ≡ writes B (point_at ps k).at r
  writes_place k r l =
      ap (λ (i : Option Instr). instr_writes i (get_or flow.uses.items k None) r) (instr_place k l)
      ∙ ap (λ (u : Option ℕ). instr_writes (instr_among G.words (point_at ps k).at) u r) (use_place k l)

  past_place : (k r : ℕ) → k < length ps → past flow ps k r ≡ form_after B (point_at ps k).at (form_at ps (point_at ps k).at) r
  past_place k r l =
      let p = point_at ps k in
      ap (λ (i : Option Instr). form_after (code_with i (get_or flow.uses.items k None)) p.at (forms_in p.forms) r) (instr_place k l)
      ∙ ap (λ (u : Option ℕ). form_after (code_with (instr_among G.words p.at) u) p.at (forms_in p.forms) r) (use_place k l)
      ∙ ap (λ (H : ℕ → Option LinearForm). form_after B p.at H r) (sym (at_by ps k rise l))

  owed_place : (k : ℕ) → k < length ps → owed_at flow ps k ≡ duty B (point_at ps k).at (forms_in (point_at ps k).forms)
  owed_place k l =
      let p = point_at ps k in
      ap (λ (i : Option Instr). duty_from i (get_or flow.uses.items k None) (forms_in p.forms)) (instr_place k l)
      ∙ ap (λ (u : Option ℕ). duty_from (instr_among G.words p.at) u (forms_in p.forms)) (use_place k l)

  pub duties : (ds : List Duty) → AreDutiesTo flow ls ps (length ps) ds → AreDuties ls N.root.body B (form_at ps) ds
  duties ds a = duties_right B flow ls ps N.root.body ds words up owed_place a

  in_list : (l : Level) → Among N l → In ls l
  in_list l a = subst (λ (xs : List Level). In xs l) (sym is.are) (subst (λ (M : Nest). In (M.root ∷ M.inner) l) is.is a)

  in_nest : (l : Level) → In ls l → Among N l
  in_nest l i = subst (λ (M : Nest). In (M.root ∷ M.inner) l) (sym is.is) (subst (λ (xs : List Level). In xs l) is.are i)

  within : (l : Level) → Among N l → (u : ℕ) → Holds l u → Holds N.root u
  within l a u h =
      subst (λ (M : Nest). Holds M.root u) (sym same) (nest.nest.bodies.within l (subst (λ (M : Nest). Among M l) same a) u h)

  -- a location that a loop does not confirm is astray in it
  astray : (r : ℕ) → IsUnconfirmed N B (roles_by B ls classes) (form_at ps) r → (1 ≤ r) × (r < 48) × Any (IsAstray flow ls classes ps r) ls
  astray r u = (low.0, low.1, (stands.0, u.loop, stands.1, stands.2, at_word (place_of_word N.root.body u.word (within u.loop u.among u.word u.inside))))
    where
      low : (1 ≤ r) × (r < 48)
      low =
          let i = instr_among G.words u.word in
          (written_from i (C.uses u.word) r u.does, written_to i (C.uses u.word) r (few.uses u.word) u.does)

      stands : (k : ℕ) × (k < length ls) × (get_or ls k u.loop ≡ u.loop)
      stands = level_in ls u.loop (in_list u.loop u.among)

      at_word : (k : ℕ) × (k < length N.root.body) × (get_or N.root.body k 0 ≡ u.word) → IsAstray flow ls classes ps r u.loop
      at_word c =
          let k = c.0 in
          let l : k < length ps = let n = count in let m = c.1 in omega arith in
          let e : (point_at ps k).at ≡ u.word = at_place k l ∙ c.2 in
          record {
            step = u.step;
            moves = moving_class (any_writes B u.loop.body r) (get_or (classes_of ls (classes.root ∷ classes.inner) u.loop) r None) u.step u.moves;
            form = u.form;
            header = u.header;
            place = k;
            within = l;
            other = record {
              inside = subst (λ w. has u.loop.body w ≡ true) (sym e) u.inside;
              written = record {
                does = writes_place k r l ∙ subst (λ w. writes B w r ≡ true) (sym e) u.does;
                other = λ q. u.other (subst (λ w. form_after B w (form_at ps w) r ≡ Some (plus_constant u.form u.step)) e (sym (past_place k r l) ∙ q));
              };
            };
          }

  -- and one that is astray in a loop is not confirmed
  unconfirmed : (r : ℕ) → Any (IsAstray flow ls classes ps r) ls → IsUnconfirmed N B (roles_by B ls classes) (form_at ps) r
  unconfirmed r a =
      let l = a.1 in
      let s = a.4 in
      let k = s.place in
      record {
        loop = l;
        among = in_nest l (listed_in ls a.0 l a.2 a.3);
        word = (point_at ps k).at;
        inside = s.other.inside;
        does = sym (writes_place k r s.within) ∙ s.other.written.does;
        step = s.step;
        moves = ap (λ (x : Option Class). role_by (any_writes B l.body r) x) s.moves;
        form = s.form;
        header = s.header;
        other = λ q. s.other.written.other (past_place k r s.within ∙ q);
      }

  pub least : (o : Option Loc) → IsLeastAstray flow ls classes ps o → IsLeastLocation (IsUnconfirmed N B (roles_by B ls classes) (form_at ps)) o
  least None h = λ r u. let a = astray r u in h r a.0 a.1 a.2
  least (Some loc) h = (h.0, unconfirmed (number_of loc) h.1, λ r u. below r (astray r u) (cases_lt r (number_of loc)))
    where
      below : (r : ℕ) → (1 ≤ r) × (r < 48) × Any (IsAstray flow ls classes ps r) ls → (r < number_of loc) ⊎ (number_of loc ≤ r) → number_of loc ≤ r
      below r a (inl l) = absurd (h.2 r a.0 l a.2)
      below r a (inr l) = l

-- what the duties ask of the loops, and of the points
module _ (G : Graph) (ls : List Level) (nest : AreNest G ls) where
  pub deep : (l : Level) → Contains ls l → l.depth < 3
  deep l c = nest.nest.bodies.depth l (subst (λ (xs : List Level). In xs l) nest.are (listed_in ls c.0 l c.1 c.2))

  pub bodies : All (λ (l : Level). IsStrictlyIncreasing l.body) ls
  bodies k d l =
      nest.ordered (get_or ls k d) (subst (λ (xs : List Level). In xs (get_or ls k d)) nest.are (listed_in ls k (get_or ls k d) l (sym (get_or_default ls k d (get_or ls k d) l))))

  -- the flow of the first loop is that of the root
  pub flow_of_root : (C : CellMap) (flow : Flow) → ((l : Level) → get_or ls 0 l ≡ l → IsFlow G C ls l.body flow) → IsFlow G C ls nest.root.body flow
  flow_of_root C flow f = f nest.root (ap (λ (xs : List Level). get_or xs 0 nest.root) nest.are)

  module _ (C : CellMap) (classes : Classes) (ps : List Point) (solved : AreSolvedPoints G C ls classes ps) where
    ats : map (λ (p : Point). p.at) ps ≡ nest.root.body
    ats = solved.words (nest_of G nest.root nest.inner) (record { root = nest.root; inner = nest.inner; are = nest.are; is = refl })

    pub rising : IsStrictlyIncreasing (map (λ (p : Point). p.at) ps)
    rising = subst (λ (xs : List ℕ). IsStrictlyIncreasing xs) (sym ats) (nest.ordered nest.root (inl refl))

    counted : length ps ≡ length nest.root.body
    counted = sym (length-map ps (λ (p : Point). p.at)) ∙ ap (λ (xs : List ℕ). length xs) ats

    pub instrs_fit : (flow : Flow) → IsFlow G C ls nest.root.body flow → length flow.instrs.items ≡ length ps
    instrs_fit flow f = ap (λ (xs : List (Option Instr)). length xs) f.instrs ∙ length-map nest.root.body (instr_among G.words) ∙ sym counted

    pub uses_fit : (flow : Flow) → IsFlow G C ls nest.root.body flow → length flow.uses.items ≡ length ps
    uses_fit flow f = ap (λ (xs : List (Option ℕ)). length xs) f.uses ∙ length-map nest.root.body C.uses ∙ sym counted

    pub held : (k : ℕ) → k < length ps → (l : Level) × Contains ls l × Holds l (point_at ps k).at
    held k lt =
        let n = length-map ps (λ (p : Point). p.at) in
        let m : length (map (λ (p : Point). p.at) ps) ≡ length nest.root.body = ap (λ (xs : List ℕ). length xs) ats in
        let e : (point_at ps k).at ≡ get_or nest.root.body k 0 = sym (get_or-map (λ (p : Point). p.at) ps k no_forms 0 lt) ∙ ap (λ (xs : List ℕ). get_or xs k 0) ats in (
          nest.root,
          subst (λ (xs : List Level). Contains xs nest.root) (sym nest.are) (0, omega arith, refl),
          subst (λ x. has nest.root.body x ≡ true) (sym e) (contains_has nest.root.body (get_or nest.root.body k 0) (Contains-get_or nest.root.body k 0 (omega arith))),
        )

-- all of it in one
pub equations_right : (G : Graph) (C : CellMap) → AreFew C → (ls : List Level) (nest : AreNest G ls) (classes : Classes) (flow : Flow) → IsFlow G C ls nest.root.body flow → (e : Equations) → AreSolvedPoints G C ls classes e.points → AreDutiesTo flow ls e.points (length e.points) e.duties → IsLeastAstray flow ls classes e.points e.unconfirmed
    → AreEquations G ls C classes e
equations_right G C few ls nest classes flow flows e s d a =
    record {
      words = s.words;
      forms = s.forms;
      duties = λ N is. duties G C few ls nest classes flow flows e.points s N is e.duties d;
      unconfirmed = λ N is. least G C few ls nest classes flow flows e.points s N is e.unconfirmed a;
    }

-- where a test fails, what it tells is not so
pub not_told : (b : Bool) (P : Type 0) → (IsTrue b ↔ P) → b ≡ false → ¬ P
not_told b P t e p = let i = t.1 p in absurd (cc)

-- none below n, nor n
pub none_more : (P : ℕ → Type 0) (n : ℕ) → ((q : ℕ) → 1 ≤ q → q < n → ¬ P q) → ¬ P n → (q : ℕ) → 1 ≤ q → q < n + 1 → ¬ P q
none_more P n none last q lo below = by (cases_lt q n)
  where
    by : (q < n) ⊎ (n ≤ q) → ¬ P q
    by (inl l) = none q lo l
    by (inr l) = let e : n ≡ q = omega arith in subst (λ x. ¬ P x) e last
