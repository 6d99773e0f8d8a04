-- The classes of a nest and the equations by them are such that the forms hold.
use Rattle.std.proofs.Common.{◌≡◌, ◌≢◌, ℕ, zero, suc, ◌-◌, ◌<◌, ◌≤◌, ◌⊎◌, inl, inr, nat_lt, true, if◌then◌else◌, List, [], ◌∷◌, length, map, get_or, ℤ, pos, negsuc, Option, Some, None, refl, ap, sym, ◌∙◌, subst, arith}
use Rattle.std.specs.List.{Contains}
use Rattle.std.proofs.lemmas.Bool.{cases_eq, cases_lt}
use Rattle.std.proofs.lemmas.Bool.Decides.{nat_tests}
use Rattle.rv64_decode.specs.Registers.{register}
use Rattle.rv64_decode.specs.Row.{asks}
use Rattle.rv64_decode.specs.declared.outcome.Next.TheVariants.{At}
use Rattle.linear_forms.specs.Forms.{Alike, LinearForm, EntryTerm, exact}
use Rattle.loop_data.specs.declared.classes.Class.{Class}
use Rattle.loop_data.specs.declared.classes.Classes.{Classes}
use Rattle.loop_data.specs.declared.equations.Duty.{Duty}
use Rattle.loop_data.specs.declared.equations.Equations.{Equations}
use Rattle.loop_data.specs.declared.graph.Graph.{Graph}
use Rattle.loop_data.specs.declared.shape.Level.{Level}
use Rattle.loop_data.specs.Nests.{Nest, In, Among, Holds, IsNest, nest_of}
use Rattle.loop_data.specs.LoopWords.{AreNest}
use Rattle.loop_data.specs.declared.verdict.Cell.{Cell}
use Rattle.loop_data.specs.Runs.{State, run, walk, instr, asks_of, granted, access}
use Rattle.loop_data.specs.Locations.{CellMap, no_cells, first_cell, cell_at, address, width_of, held, moves_cell}
use Rattle.loop_data.specs.LoopCode.{LoopCode, instr_among, code_of, any_writes, writes, IsUnwritten}
use Rattle.loop_data.specs.Independent.{Role, Keeps, Moves, Private, IsAccess}
use Rattle.loop_data.specs.Facts.{Fact}
use Rattle.loop_data.specs.FactPass.{AreFacts}
use Rattle.loop_data.specs.FoundCells.{AreFoundCells}
use Rattle.loop_data.specs.Accesses.{motion_of}
use Rattle.loop_data.specs.Classes.{HasRole, HasInnerRole}
use Rattle.loop_data.specs.FormRows.{form_after, duty}
use Rattle.loop_data.specs.Equations.{plus_constant, IsConfirmed}
use Rattle.loop_data.specs.Holds.{entry_of, times, HoldsAt}
use Rattle.loop_data.specs.Lookups.{cell_map, form_at, role_by, roles_by, classes_of}
use Rattle.loop_data.specs.Executing.{AreProgramWords, AreCellWords, AreAtCells, IsOf32Bits}
use Rattle.loop_data.specs.Results.{IsNestOf, IsUnconfirmed, IsLeastLocation, AreEquations, AreClasses, class_in}
use Rattle.loop_data.proofs.Tests.{is_eq, is_ne, yes_no}
use Rattle.loop_data.proofs.Steps.{has_contains}
use Rattle.loop_data.proofs.FactsExist.{facts_exist}
use Rattle.loop_data.proofs.NestVisits.{AreGiven, are_given, step_is, here, holds_word, executes_less}
use Rattle.loop_data.proofs.FormWords.{Right}
use Rattle.register_equations.specs.FormLaws.{AreSolved, MeetsDuties, MeetsListed, ResultLaw, ResultTurnsLaw, AccessTurnsLaw, AskLaw}
use Rattle.register_equations.proofs.Solutions.{roles_solve}
use Rattle.register_equations.proofs.Runs.{form_law}
use Rattle.register_equations.proofs.FixedFacts.{fixed_facts}
use Rattle.register_equations.proofs.CellAddresses.{found_at, asks_at, accesses_cell, motion_range}

low : (q : ℕ) → q < 32 → nat_lt q first_cell ≡ true
low q l = grind (arith, nat_tests)

-- two forms are the same, or are not
cases_int : (a b : ℤ) → (a ≡ b) ⊎ (a ≢ b)
cases_int (pos a) (pos b) = go (cases_eq a b)
  where
    go : (a ≡ b) ⊎ (a ≢ b) → (pos a ≡ pos b) ⊎ (pos a ≢ pos b)
    go (inl e) = inl (ap pos e)
    go (inr ne) = inr (λ e. ne (cc))
cases_int (pos a) (negsuc b) = inr (λ e. absurd (cc))
cases_int (negsuc a) (pos b) = inr (λ e. absurd (cc))
cases_int (negsuc a) (negsuc b) = go (cases_eq a b)
  where
    go : (a ≡ b) ⊎ (a ≢ b) → (negsuc a ≡ negsuc b) ⊎ (negsuc a ≢ negsuc b)
    go (inl e) = inl (ap negsuc e)
    go (inr ne) = inr (λ e. ne (cc))

cases_terms : (xs ys : List EntryTerm) → (xs ≡ ys) ⊎ (xs ≢ ys)
cases_terms [] [] = inl refl
cases_terms [] (y ∷ ys) = inr (λ e. absurd (cc))
cases_terms (x ∷ xs) [] = inr (λ e. absurd (cc))
cases_terms (x ∷ xs) (y ∷ ys) = go (cases_eq x.loc y.loc) (cases_int x.by y.by) (cases_terms xs ys)
  where
    go : (x.loc ≡ y.loc) ⊎ (x.loc ≢ y.loc) → (x.by ≡ y.by) ⊎ (x.by ≢ y.by) → (xs ≡ ys) ⊎ (xs ≢ ys) → (x ∷ xs ≡ y ∷ ys) ⊎ (x ∷ xs ≢ y ∷ ys)
    go (inl a) (inl b) (inl c) =
        inl (ap (λ n. record { loc = n; by = x.by } ∷ xs) a ∙ ap (λ z. record { loc = y.loc; by = z } ∷ xs) b ∙ ap (λ zs. y ∷ zs) c)
    go (inr a) b c = inr (λ e. a (let q : x ≡ y = cc in ap (λ (t : EntryTerm). t.loc) q))
    go (inl a) (inr b) c = inr (λ e. b (let q : x ≡ y = cc in ap (λ (t : EntryTerm). t.by) q))
    go (inl a) (inl b) (inr c) = inr (λ e. c (cc))

abbrev form_from : ℤ → List EntryTerm → ℤ → ℤ → ℤ → LinearForm
form_from a ts x y z = record { constant = a; terms = ts; first = x; second = y; third = z }

pub cases_form : (f g : LinearForm) → (f ≡ g) ⊎ (f ≢ g)
cases_form f g = go (cases_int f.constant g.constant) (cases_terms f.terms g.terms) (cases_int f.first g.first) (cases_int f.second g.second) (cases_int f.third g.third)
  where
    go : (f.constant ≡ g.constant) ⊎ (f.constant ≢ g.constant) → (f.terms ≡ g.terms) ⊎ (f.terms ≢ g.terms)
        → (f.first ≡ g.first) ⊎ (f.first ≢ g.first) → (f.second ≡ g.second) ⊎ (f.second ≢ g.second)
        → (f.third ≡ g.third) ⊎ (f.third ≢ g.third) → (f ≡ g) ⊎ (f ≢ g)
    go (inl a) (inl b) (inl c) (inl d) (inl e) =
        inl (ap (λ n. form_from n f.terms f.first f.second f.third) a
        ∙ ap (λ n. form_from g.constant n f.first f.second f.third) b
        ∙ ap (λ n. form_from g.constant g.terms n f.second f.third) c
        ∙ ap (λ n. form_from g.constant g.terms g.first n f.third) d
        ∙ ap (λ n. form_from g.constant g.terms g.first g.second n) e)
    go (inr a) b c d e = inr (λ q. a (ap (λ (h : LinearForm). h.constant) q))
    go (inl a) (inr b) c d e = inr (λ q. b (ap (λ (h : LinearForm). h.terms) q))
    go (inl a) (inl b) (inr c) d e = inr (λ q. c (ap (λ (h : LinearForm). h.first) q))
    go (inl a) (inl b) (inl c) (inr d) e = inr (λ q. d (ap (λ (h : LinearForm). h.second) q))
    go (inl a) (inl b) (inl c) (inl d) (inr e) = inr (λ q. e (ap (λ (h : LinearForm). h.third) q))

cases_some : (o : Option LinearForm) (g : LinearForm) → (o ≡ Some g) ⊎ (o ≢ Some g)
cases_some None g = inr (λ e. absurd (cc))
cases_some (Some f) g = go (cases_form f g)
  where
    go : (f ≡ g) ⊎ (f ≢ g) → (Some f ≡ Some g) ⊎ (Some f ≢ Some g)
    go (inl e) = inl (ap (λ h. Some h) e)
    go (inr ne) = inr (λ e. ne (cc))

-- where no induction is written otherwise, each is confirmed
confirmed_at : (N : Nest) (B : LoopCode) (roles : Level → ℕ → Role) (at : ℕ → ℕ → Option LinearForm) → ((r : ℕ) → ¬ IsUnconfirmed N B roles at r)
    → (l : Level) → Among N l → (r : ℕ) → IsConfirmed N B roles at l r
confirmed_at N B roles at none l among r = record { by = by }
  where
    by : (u : ℕ) (step : ℤ) (f : LinearForm) → roles l r ≡ Moves step → Holds l u → writes B u r ≡ true → at l.header r ≡ Some f
        → form_after B u (at u) r ≡ Some (plus_constant f step)
    by u step f moves inside does header = go (cases_some (form_after B u (at u) r) (plus_constant f step))
      where
        go : (form_after B u (at u) r ≡ Some (plus_constant f step)) ⊎ (form_after B u (at u) r ≢ Some (plus_constant f step))
            → form_after B u (at u) r ≡ Some (plus_constant f step)
        go (inl e) = e
        go (inr ne) = absurd (none r (record { loop = l; among = among; word = u; inside = inside; does = does; step = step; moves = moves; form = f; header = header; other = ne }))

-- the classes of an inner loop stand at its place
class_place : (N : Nest) → IsNest N → (ls : List Level) → ((m : Level) → In ls m → Among N m) → (rows : List (List (Option Class))) (l : Level) → In ls l
    → (i : ℕ) × (i < length ls) × (get_or ls i l ≡ l) × (classes_of ls rows l ≡ get_or rows i [])
class_place N nest [] among rows l i = absurd i
class_place N nest (m ∷ ms) among rows l i = go i (λ j rest. class_place N nest ms (λ k q. among k (inr q)) rest l j)
  where
    here : (rows : List (List (Option Class))) → m ≡ l → classes_of (m ∷ ms) rows l ≡ get_or rows 0 []
    here [] e = refl
    here (row ∷ rest) e = ap (λ b. if b then row else classes_of ms rest l) (is_eq m.header l.header (ap (λ (z : Level). z.header) e))

    later : (rows : List (List (Option Class))) → m.header ≢ l.header → (k : ℕ) → ((rest : List (List (Option Class))) → classes_of ms rest l ≡ get_or rest k []) → classes_of (m ∷ ms) rows l ≡ get_or rows (suc k) []
    later [] ne k h = refl
    later (row ∷ rest) ne k h = ap (λ b. if b then row else classes_of ms rest l) (is_ne m.header l.header ne) ∙ h rest

    go : (m ≡ l) ⊎ In ms l → (In ms l → (rest : List (List (Option Class))) → (i : ℕ) × (i < length ms) × (get_or ms i l ≡ l) × (classes_of ms rest l ≡ get_or rest i []))
        → (i : ℕ) × (i < length (m ∷ ms)) × (get_or (m ∷ ms) i l ≡ l) × (classes_of (m ∷ ms) rows l ≡ get_or rows i [])
    go (inl e) before = (0, omega arith, e, here rows e)
    go (inr j) before = by (cases_eq m.header l.header)
      where
        by : (m.header ≡ l.header) ⊎ (m.header ≢ l.header) → (i : ℕ) × (i < length (m ∷ ms)) × (get_or (m ∷ ms) i l ≡ l) × (classes_of (m ∷ ms) rows l ≡ get_or rows i [])
        by (inl e) =
            let same = nest.bodies.apart l m (among l (inr j)) (among m (inl refl))
            (subst (λ z. Holds m z) e (nest.bodies.header m (among m (inl refl))))
            (subst (λ z. Holds l z) (sym e) (nest.bodies.header l (among l (inr j)))) in
            (0, omega arith, sym same, here rows (sym same))
        by (inr ne) = tail rows
          where
            tail : (rows : List (List (Option Class))) → (i : ℕ) × (i < length (m ∷ ms)) × (get_or (m ∷ ms) i l ≡ l) × (classes_of (m ∷ ms) rows l ≡ get_or rows i [])
            tail [] = let b = before j [] in (suc b.0, (let k = b.1 in omega arith), b.2, refl)
            tail (row ∷ rest) = let b = before j rest in (suc b.0, (let k = b.1 in omega arith), b.2, ap (λ c. if c then row else classes_of ms rest l) (is_ne m.header l.header ne) ∙ b.3)

-- a duty of the list, by its address
duty_at : (ds : List Duty) (u k : ℕ) → k < length (map (λ (d : Duty). d.at) ds) → get_or (map (λ (d : Duty). d.at) ds) k u ≡ u → (d : Duty) × Contains ds d × (d.at ≡ u)
duty_at [] u k l e = absurd (omega arith)
duty_at (d ∷ ds) u zero l e = (d, (0, omega arith, refl), e)
duty_at (d ∷ ds) u (suc k) l e = let r = duty_at ds u k (omega arith) e in (r.0, (suc r.1.0, (let m = r.1.1 in omega arith), r.1.2), r.2)

same_form : (f g : LinearForm) → Some f ≡ Some g → f ≡ g
same_form f g e = cc

module _ (G : Graph) (ls : List Level) (nest : AreNest G ls) (words : AreProgramWords G) (c : Classes) (e : Equations) (C : CellMap) (classes : AreClasses G ls C c) (equations : AreEquations G ls C c e) where
  abbrev N : Nest
  N = nest_of G nest.root nest.inner

  abbrev B : LoopCode
  B = code_of G C

  abbrev roles : Level → ℕ → Role
  roles = roles_by B ls c

  abbrev at : ℕ → ℕ → Option LinearForm
  at = form_at e.points

  of : IsNestOf G ls N
  of = record { root = nest.root; inner = nest.inner; are = nest.are; is = refl }

  -- the classes by which the roles go
  root_classes : classes_of ls (c.root ∷ c.inner) N.root ≡ c.root
  root_classes =
      ap (λ (xs : List Level). classes_of xs (c.root ∷ c.inner) N.root) nest.are
      ∙ ap (λ b. if b then c.root else classes_of nest.inner c.inner nest.root) (is_eq nest.root.header nest.root.header refl)

  inner_classes : (l : Level) → In N.inner l → classes_of ls (c.root ∷ c.inner) l ≡ classes_of nest.inner c.inner l
  inner_classes l i =
      ap (λ (xs : List Level). classes_of xs (c.root ∷ c.inner) l) nest.are
      ∙ ap (λ b. if b then c.root else classes_of nest.inner c.inner l) (is_ne nest.root.header l.header (λ q. nest.nest.bodies.inner_header l i (sym q)))

  outer : (r : ℕ) → (V : ℕ → ℕ → Option Fact) × HasRole N B V r (roles N.root r)
  outer r =
      let facts = facts_exist N B N.root nest.nest (inl refl) in (
        facts.0,
        subst (λ (row : List (Option Class)). HasRole N B facts.0 r (role_by (any_writes B N.root.body r) (class_in row r))) (sym root_classes)
            (classes.root N facts.0 r of facts.1),
      )

  inner : (l : Level) → In N.inner l → (r : ℕ) → (V : ℕ → ℕ → Option Fact) × HasInnerRole N B V l r (roles l r)
  inner l i r =
      let facts = facts_exist N B l nest.nest (inr i) in
      let place = class_place N nest.nest nest.inner (λ m k. inr k) c.inner l i in (
        facts.0,
        subst (λ (row : List (Option Class)). HasInnerRole N B facts.0 l r (role_by (any_writes B l.body r) (class_in row r)))
            (sym (inner_classes l i ∙ place.3)) (classes.inner N facts.0 l place.0 r of facts.1 place.1 place.2),
      )

  solved : e.unconfirmed ≡ None → AreSolved N B roles at
  solved none =
      roles_solve N B roles at outer inner (equations.forms N of)
      (confirmed_at N B roles at (subst (IsLeastLocation (IsUnconfirmed N B roles at)) none (equations.unconfirmed N of)))

  met : (s : State) (n : ℕ) → MeetsListed N B e.duties s n → MeetsDuties N B at s n
  met s n listed = record { executes = listed.executes; leaves = listed.leaves; duties = each }
    where
      each : (m : ℕ) (f : LinearForm) → m < n → duty B (walk s m) (at (walk s m)) ≡ Some f → IsOf32Bits (exact f (entry_of B.cells s) (times N s m))
      each m f lt owes =
          let inside = holds_word N B (are_given G ls nest C words) s n listed.executes m (omega arith) in
          let has_one = (equations.duties N of).every (walk s m) f (has_contains N.root.body (walk s m) inside) owes in
          let d = duty_at e.duties (walk s m) has_one.0 has_one.1 has_one.2 in
          let is = ((equations.duties N of).each d.0 d.1).1.form in
          let same = same_form f (d.0).form (sym owes ∙ subst (λ u. duty B u (at u) ≡ Some (d.0).form) d.2 is) in
          subst (λ g. IsOf32Bits (exact g (entry_of B.cells s) (times N s m))) (sym same) (listed.met m d.0 lt d.1 (sym d.2))

  -- a location that a loop does not write keeps its value there
  keeps : (l : Level) → Among N l → (r : ℕ) → IsUnwritten B l r → roles l r ≡ Keeps
  keeps l (inl q) r un = subst (λ (z : Level). IsUnwritten B z r → roles z r ≡ Keeps) q (λ un. let o = outer r in by_root (roles N.root r) o.0 un o.1) un
    where
      by_root : (role : Role) (V : ℕ → ℕ → Option Fact) → IsUnwritten B N.root r → HasRole N B V r role → role ≡ Keeps
      by_root Keeps V un h = refl
      by_root (Moves step) V un h = absurd (yes_no (writes B h.word r) h.does (un h.word h.inside))
      by_root Private V un h = let w = h.0 in absurd (yes_no (writes B w.word r) w.does (un w.word w.inside))
  keeps l (inr i) r un = let o = inner l i r in by_inner (roles l r) o.0 o.1
    where
      by_inner : (role : Role) (V : ℕ → ℕ → Option Fact) → HasInnerRole N B V l r role → role ≡ Keeps
      by_inner Keeps V h = refl
      by_inner (Moves step) V h = absurd (yes_no (writes B h.word r) h.does (un h.word h.inside))
      by_inner Private V h = let w = h.0 in absurd (yes_no (writes B w.word r) w.does (un w.word w.inside))

  module _ (V : ℕ → ℕ → Option Fact) (pass : AreFacts N (code_of G no_cells) N.root V) (found : AreFoundCells N B V) (none : e.unconfirmed ≡ None) where
    given : AreGiven N B
    given = are_given G ls nest C words

    cell_words : AreCellWords N.root B
    cell_words = record { uses = λ u k h q. let f = found u k h q in (f.cell, f.at, f.width) }

    same_cell : (x y : Cell) → Some x ≡ Some y → x ≡ y
    same_cell x y e = cc

    -- the entry value of a register, and its form's value at a visit
    entry_is : (s : State) (q : ℕ) → q < 32 → entry_of C s q ≡ pos (register s.regs q)
    entry_is s q l = let b = low q l in ap pos (ap (λ t. if t then register s.regs q else held s.regs (cell_at C.cells (q - first_cell)) s.memory) b)

    register_right : (s : State) (n : ℕ) → HoldsAt N C at s n → (q : ℕ) → q < 32 → Right (entry_of C s) (times N s n) (register (run s n).regs q) (at (walk s n) q)
    register_right s n forms q l f h =
        let b = low q l in
        subst (λ x. Alike (pos x) (exact f (entry_of C s) (times N s n))) (ap (λ t. if t then register (run s n).regs q else held s.regs (cell_at C.cells (q - first_cell)) (run s n).memory) b) (forms q f h)

    -- where the forms hold, a word that uses a cell asks for the cell's bytes
    pub asks_cell : (s : State) (n k : ℕ) (x : Cell) → Holds N.root (walk s n) → HoldsAt N C at s n → instr (run s n) ≡ B.instr (walk s n) → C.uses (walk s n) ≡ Some k → cell_at C.cells k ≡ Some x
        → IsAccess (asks_of (instr (run s n)) (run s n).regs) (address s.regs x) (width_of x)
    asks_cell s n k x inside held word use_is cell_is =
        let w = given (walk s n) inside in
        let f = found (walk s n) k inside use_is in
        let same = same_cell f.cell x (sym f.at ∙ cell_is) in
        let moves : motion_of (Some w.does) ≡ Some f.moves = subst (λ o. motion_of o ≡ Some f.moves) w.is f.is in
        let range = motion_range w.does f.moves w.range moves in
        let right = register_right s n held (f.moves).base range.0 in
        let here_is = found_at N B (V (walk s n)) (at (walk s n)) (entry_of C s) (times N s n) s.regs (run s n).regs f.cell (f.moves).base (f.moves).offset (entry_is s)
        (fixed_facts N nest.nest (instr_among G.words) C V roles at pass (equations.forms N of) keeps (walk s n) inside (f.moves).base)
        right range.1 f.address f.base f.near in
        let own = asks_at w.does f.moves f.cell s.regs (run s n).regs moves (subst (λ o. moves_cell o (f.cell).wide ≡ true) w.is f.width) here_is in
        subst (λ c. IsAccess (asks_of (instr (run s n)) (run s n).regs) (address s.regs c) (width_of c)) same
        (subst (λ o. IsAccess (asks_of o (run s n).regs) (address s.regs f.cell) (width_of f.cell)) (sym (word ∙ w.is)) own)

    -- the word of a visit from which the run goes on accesses the cell that it uses
    pub at_cell : (s : State) (n k v : ℕ) (x : Cell) → MeetsListed N B e.duties s n → HoldsAt N C at s n → instr (run s n) ≡ B.instr (walk s n) → (run s (suc n)).next ≡ At v → C.uses (walk s n) ≡ Some k → cell_at C.cells k ≡ Some x
        → IsAccess (access (run s n)) (address s.regs x) (width_of x)
    at_cell s n k v x listed held word goes use_is cell_is =
        let ex = listed.executes in
        let inside = holds_word N B given s n ex n (omega arith) in
        let w = given (walk s n) inside in
        let next = step_is (run s n) (walk s n) w.does (here N B given s n ex n (omega arith)) (word ∙ w.is) in
        let f = found (walk s n) k inside use_is in
        let same = same_cell f.cell x (sym f.at ∙ cell_is) in
        let moves : motion_of (Some w.does) ≡ Some f.moves = subst (λ o. motion_of o ≡ Some f.moves) w.is f.is in
        let range = motion_range w.does f.moves w.range moves in
        let right = register_right s n held (f.moves).base range.0 in
        let here_is = found_at N B (V (walk s n)) (at (walk s n)) (entry_of C s) (times N s n) s.regs (run s n).regs f.cell (f.moves).base (f.moves).offset (entry_is s)
        (fixed_facts N nest.nest (instr_among G.words) C V roles at pass (equations.forms N of) keeps (walk s n) inside (f.moves).base)
        right range.1 f.address f.base f.near in
        let on = sym (ap (λ (z : State). z.next) next) ∙ goes in
        let own = accesses_cell w.does f.moves f.cell (walk s n) v s.regs (run s n).regs (run s n).memory moves (subst (λ o. moves_cell o (f.cell).wide ≡ true) w.is f.width) here_is on in
        let there : access (run s n) ≡ granted (run s n).memory (asks w.does (run s n).regs) = ap (λ o. granted (run s n).memory (asks_of o (run s n).regs)) (word ∙ w.is) in
        subst (λ c. IsAccess (access (run s n)) (address s.regs c) (width_of c)) same (subst (λ a. IsAccess a (address s.regs f.cell) (width_of f.cell)) (sym there) own)

    less : (s : State) (n : ℕ) → MeetsListed N B e.duties s (suc n) → MeetsListed N B e.duties s n
    less s n listed = record {
      executes = executes_less N.root B s (suc n) n (omega arith) listed.executes;
      leaves = record { others = λ m k b c lt. (listed.leaves).others m k b c (omega arith); areas = (listed.leaves).areas };
      met = λ m d lt. listed.met m d (omega arith);
    }

    -- each word that uses a cell accesses its bytes, and so the forms hold
    pub holds_here : (s : State) (n : ℕ) → MeetsListed N B e.duties s n → HoldsAt N C at s n × AreAtCells C s n
    holds_here s zero listed =
        let own : AreAtCells C s 0 = λ m k c lt. absurd (omega arith) in
        (form_law G ls nest words C roles at s 0 (solved none) cell_words own (met s 0 listed), own)
    holds_here s (suc n) listed = go (holds_here s n (less s n listed))
      where
        go : HoldsAt N C at s n × AreAtCells C s n → HoldsAt N C at s (suc n) × AreAtCells C s (suc n)
        go before =
            let own : AreAtCells C s (suc n) = λ m k c lt u q. by m k c (cases_lt m n) lt u q in
            (form_law G ls nest words C roles at s (suc n) (solved none) cell_words own (met s (suc n) listed), own)
          where
            by : (m k : ℕ) (c : Cell) → (m < n) ⊎ (n ≤ m) → m < suc n → C.uses (walk s m) ≡ Some k → cell_at C.cells k ≡ Some c → IsAccess (access (run s m)) (address s.regs c) (width_of c)
            by m k c (inl l) lt u q = before.1 m k c l u q
            by m k c (inr l) lt u q =
                let z : n ≡ m = omega arith in
                let ex = listed.executes in
                let word = ex.words n (omega arith) in
                let goes = here N B given s (suc n) ex (suc n) (omega arith) in
                subst (λ j. C.uses (walk s j) ≡ Some k → IsAccess (access (run s j)) (address s.regs c) (width_of c)) z (λ w. at_cell s n k (walk s (suc n)) c (less s n listed) before.0 word goes w q) u

pub result_law : ResultLaw
result_law G ls nest words cells c e s n are =
    holds_here G ls nest words c e (cell_map cells) are.classes are.equations are.facts are.pass are.found are.confirmed s n

pub result_turns_law : ResultTurnsLaw
result_turns_law G ls nest words cells c e s p are each = (
  λ n lt inside. (result_law G ls nest words cells c e s n are (each n lt inside)).0,
  λ n lt inside. (result_law G ls nest words cells c e s n are (each n lt inside)).1,
)

pub access_turns_law : AccessTurnsLaw
access_turns_law G ls nest words cells c e s p are each n k v x lt inside word goes used is =
    let listed = each n lt inside in
    at_cell G ls nest words c e (cell_map cells) are.classes are.equations are.facts are.pass are.found are.confirmed s n k v x listed (result_law G ls nest words cells c e s n are listed).0 word goes used is

pub ask_law : AskLaw
ask_law G ls nest words cells c e s n k x are inside word held used is =
    asks_cell G ls nest words c e (cell_map cells) are.classes are.equations are.facts are.pass are.found are.confirmed s n k x inside held word used is
