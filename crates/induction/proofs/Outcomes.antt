-- What the places, masks and values of a loop tell of a register.
use Rattle.std.proofs.Common.{◌≡◌, ◌≢◌, ℕ, ◌<◌, ◌⊎◌, inl, inr, ◌==◌, Bool, true, false, if◌then◌else◌, List, [], ◌∷◌, length, get_or, Option, Some, None, ℤ, refl, ap, sym, ◌∙◌, subst, arith}
use Rattle.linear_forms.specs.Forms.{is_small}
use Rattle.loop_data.specs.declared.graph.Graph.{Graph}
use Rattle.loop_data.specs.declared.shape.Level.{Level}
use Rattle.loop_data.specs.Nests.{Nest, has, In, Among, Holds, IsPassTo, IsPass, IsNest}
use Rattle.loop_data.specs.Locations.{CellMap}
use Rattle.loop_data.specs.LoopCode.{LoopCode, code_of, writes, reads, any_writes, IsUnwritten, IsWritten, LiesIn}
use Rattle.loop_data.specs.Facts.{Fact, Offset, fact_after}
use Rattle.loop_data.specs.Classes.{IsInduction, IsPrivate}
use Rattle.loop_data.specs.ValueStates.{past}
use Rattle.loop_data.proofs.Tests.{is_ne, eq_of, ne_of, true_or_false, yes_no}
use Rattle.loop_data.proofs.FlowWords.{same_place}
use Rattle.loop_data.proofs.FactUnique.{some_writes_it}
use Rattle.loop_data.proofs.FlowEdges.{place_of_word}
use Rattle.induction.specs.declared.words.Words.{Words}
use Rattle.induction.specs.declared.writers.Writers.{Writers}
use Rattle.induction.specs.declared.writers.Writers.TheVariants.{Nowhere, At, Several}
use Rattle.induction.specs.Masks.{has_bit, place_writes}
use Rattle.induction.specs.Writers.{AreWriters}
use Rattle.induction.specs.Words.{IsLoopOf, step_at, is_round_in, deeper, step_of_place, step_by, IsPrivateAt, IsNotPrivateAt}
use Rattle.induction.proofs.Marks.{Given, or_true, or_left, or_right, or_false, marked, unmarked, written_on_each, unwritten_pass}
use Rattle.induction.proofs.PlaceMarks.{has_at, mark_of, is_nest, levels_of, body_rises, writes_at, reads_at, mark_here, given, always_is}
use Rattle.induction.proofs.WordFacts.{past_is, step_is, is_step}

-- a way with the word has its write
pub has_write : (B : LoopCode) (us : List ℕ) (u r : ℕ) → has us u ≡ true → writes B u r ≡ true → any_writes B us r ≡ true
has_write B [] u r h w = absurd (cc)
has_write B (y ∷ ys) u r h w = go (y == u) refl h (λ k. has_write B ys u r k w)
  where
    go : (b : Bool) → (y == u) ≡ b → (if b then true else has ys u) ≡ true → (has ys u ≡ true → any_writes B ys r ≡ true) → any_writes B (y ∷ ys) r ≡ true
    go true e h later = or_left (writes B y r) (any_writes B ys r) (ap (λ q. writes B q r) (eq_of y u e) ∙ w)
    go false e h later = or_right (writes B y r) (any_writes B ys r) (later h)

-- the words of a pass are in the body
way_inside : (N : Nest) (l : Level) (us : List ℕ) (x u : ℕ) → IsPassTo N l us x → has us u ≡ true → Holds l u
way_inside N l [] x u w h = absurd (cc)
way_inside N l (y ∷ ys) x u w h = go (y == u) refl h (way_inside N l ys y u w.2)
  where
    go : (b : Bool) → (y == u) ≡ b → (if b then true else has ys u) ≡ true → (has ys u ≡ true → Holds l u) → Holds l u
    go true e h later = subst (Holds l) (eq_of y u e) (w.0).from
    go false e h later = later h

pass_inside : (N : Nest) (l : Level) (us : List ℕ) (u : ℕ) → IsPass N l us → has us u ≡ true → Holds l u
pass_inside N l [] u p h = absurd p
pass_inside N l (y ∷ ys) u p h = go (y == u) refl h
  where
    go : (b : Bool) → (y == u) ≡ b → (if b then true else has ys u) ≡ true → Holds l u
    go true e h = subst (Holds l) (eq_of y u e) (p.0).from
    go false e h = way_inside N l ys y u p.1 h

-- a register of a loop
pub record Register (G : Graph) (C : CellMap) (ls : List Level) (N : Nest) (l : Level) (V : ℕ → ℕ → Option Fact) (w : Words) (r : ℕ) : Type 0 where
  pub is : IsLoopOf G C ls N l V w
  pub below : r < 48

-- a word of the body that writes it stands at a place
writer_place : (G : Graph) (C : CellMap) (ls : List Level) (N : Nest) (l : Level) (V : ℕ → ℕ → Option Fact) (w : Words) (r : ℕ) → Register G C ls N l V w r → (u : ℕ) → Holds l u → writes (code_of G C) u r ≡ true
    → (p : ℕ) × (p < length l.body) × (get_or l.body p 0 ≡ u) × (place_writes w.flow p r ≡ true)
writer_place G C ls N l V w r s u h t =
    let k = place_of_word l.body u h in
    (k.0, k.1, k.2, writes_at G C ls l.body w s.is.words.flow k.0 r k.1 ∙ ap (λ q. writes (code_of G C) q r) k.2 ∙ t)

pub unwritten : (G : Graph) (C : CellMap) (ls : List Level) (N : Nest) (l : Level) (V : ℕ → ℕ → Option Fact) (w : Words) (r : ℕ) → Register G C ls N l V w r → AreWriters w.flow (length l.body) r Nowhere → IsUnwritten (code_of G C) l r
unwritten G C ls N l V w r s none u h = by (true_or_false (writes (code_of G C) u r))
  where
    by : (writes (code_of G C) u r ≡ true) ⊎ (writes (code_of G C) u r ≡ false) → writes (code_of G C) u r ≡ false
    by (inl t) = let p = writer_place G C ls N l V w r s u h t in absurd (yes_no (place_writes w.flow p.0 r) p.3 (none p.0 p.1))
    by (inr f) = f

written_at : (G : Graph) (C : CellMap) (ls : List Level) (N : Nest) (l : Level) (V : ℕ → ℕ → Option Fact) (w : Words) (r : ℕ) → Register G C ls N l V w r → (p : ℕ) → p < length l.body → place_writes w.flow p r ≡ true → IsWritten (code_of G C) l r
written_at G C ls N l V w r s p lp t = record { word = get_or l.body p 0; inside = has_at l.body p lp; does = sym (writes_at G C ls l.body w s.is.words.flow p r lp) ∙ t }

-- some words write it
pub written : (G : Graph) (C : CellMap) (ls : List Level) (N : Nest) (l : Level) (V : ℕ → ℕ → Option Fact) (w : Words) (r : ℕ) → Register G C ls N l V w r → (by : Writers) → AreWriters w.flow (length l.body) r by → by ≢ Nowhere → IsWritten (code_of G C) l r
written G C ls N l V w r s Nowhere a ne = absurd (ne refl)
written G C ls N l V w r s (At p) a ne = written_at G C ls N l V w r s p a.0 a.1
written G C ls N l V w r s Several a ne = written_at G C ls N l V w r s a.0 a.2 a.5

-- a loop that lies in l and holds the word, or none does
deeper_none : (ls : List Level) (l m : Level) (x : ℕ) → deeper ls l x ≡ false → In ls m → is_round_in m l x ≡ false
deeper_none [] l m x f i = absurd i
deeper_none (y ∷ ys) l m x f (inl e) = subst (λ (z : Level). is_round_in z l x ≡ false) e (or_false (is_round_in y l x) (deeper ys l x) f).0
deeper_none (y ∷ ys) l m x f (inr i) = deeper_none ys l m x (or_false (is_round_in y l x) (deeper ys l x) f).1 i

deeper_one : (ls : List Level) (l : Level) (x : ℕ) → deeper ls l x ≡ true → (m : Level) × In ls m × (is_round_in m l x ≡ true)
deeper_one [] l x t = absurd (cc)
deeper_one (y ∷ ys) l x t = by (or_true (is_round_in y l x) (deeper ys l x) t) (deeper_one ys l x)
  where
    by : (is_round_in y l x ≡ true) ⊎ (deeper ys l x ≡ true) → (deeper ys l x ≡ true → (m : Level) × In ys m × (is_round_in m l x ≡ true)) → (m : Level) × In (y ∷ ys) m × (is_round_in m l x ≡ true)
    by (inl k) later = (y, inl refl, k)
    by (inr k) later = let m = later k in (m.0, inr m.1, m.2)

-- the parts of the test
round_parts : (l m : Level) (x : ℕ) → is_round_in m l x ≡ true → (m.header ≢ l.header) × Holds l m.header × Holds m x
round_parts l m x t = by (m.header == l.header) (has l.body m.header) refl refl t
  where
    by : (a b : Bool) → (m.header == l.header) ≡ a → has l.body m.header ≡ b → (if a then false else if b then has m.body x else false) ≡ true → (m.header ≢ l.header) × Holds l m.header × Holds m x
    by true b e f t = absurd (cc)
    by false false e f t = absurd (cc)
    by false true e f t = (ne_of m.header l.header e, f, t)

round_false : (l m : Level) (x : ℕ) → m.header ≢ l.header → Holds l m.header → is_round_in m l x ≡ false → has m.body x ≡ false
round_false l m x ne h f = sym (ap (λ a. if a then false else if has l.body m.header then has m.body x else false) (is_ne m.header l.header ne) ∙ ap (λ b. if b then has m.body x else false) h) ∙ f

other_header : (N : Nest) (l m : Level) → IsNest N → Among N l → LiesIn N l m → m.header ≢ l.header
other_header N l m nest i lies e =
    let b = nest.bodies in
    lies.other (b.apart m l lies.among i lies.header (subst (λ q. Holds m q) e (b.header m lies.among)))

-- a choice that gives something, or nothing
chosen : (b : Bool) (x : Option ℤ) (z : ℤ) → (if b then x else None) ≡ Some z → (b ≡ true) × (x ≡ Some z)
chosen true x z e = (refl, e)
chosen false x z e = absurd (cc)

not_chosen : (b : Bool) (x : Option ℤ) (z : ℤ) → (if b then None else x) ≡ Some z → (b ≡ false) × (x ≡ Some z)
not_chosen true x z e = absurd (cc)
not_chosen false x z e = (refl, e)

-- a register with a step is an induction
pub moves_at : (G : Graph) (C : CellMap) (ls : List Level) (N : Nest) (l : Level) (V : ℕ → ℕ → Option Fact) (w : Words) (r : ℕ) → Register G C ls N l V w r → (p : ℕ) → AreWriters w.flow (length l.body) r (At p) → (z : ℤ) → step_of_place ls l w r p ≡ Some z → IsInduction N (code_of G C) V l r z
moves_at G C ls N l V w r s p a z e =
    record {
      word = get_or l.body p 0;
      inside = has_at l.body p a.0;
      does = sym (writes_at G C ls l.body w s.is.words.flow p r a.0) ∙ a.1;
      alone = alone;
      outermost = outermost;
      always = always;
      adds = sym (past_is G C ls N l V w s.is p r a.0) ∙ step.0;
      small = step.1;
    }
  where
    first : (has_bit w.always r ≡ true) × ((if deeper ls l (get_or l.body p 0) then None else step_at w p r) ≡ Some z)
    first = chosen (has_bit w.always r) (if deeper ls l (get_or l.body p 0) then None else step_at w p r) z e

    second : (deeper ls l (get_or l.body p 0) ≡ false) × (step_at w p r ≡ Some z)
    second = not_chosen (deeper ls l (get_or l.body p 0)) (step_at w p r) z first.1

    step : (past w.flow w.points.items p r ≡ Some (Offset r z)) × (is_small z ≡ true)
    step = step_is (past w.flow w.points.items p r) r z second.1

    alone : (u : ℕ) → Holds l u → writes (code_of G C) u r ≡ true → u ≡ get_or l.body p 0
    alone u h t = let q = writer_place G C ls N l V w r s u h t in sym q.2 ∙ ap (λ k. get_or l.body k 0) (a.2 q.0 q.1 q.3)

    outermost : (m : Level) → LiesIn N l m → has m.body (get_or l.body p 0) ≡ false
    outermost m lies =
        round_false l m (get_or l.body p 0) (other_header N l m (is_nest G ls N s.is.nest s.is.of) s.is.among lies) lies.header
        (deeper_none ls l m (get_or l.body p 0) second.0 (subst (λ (xs : List Level). In xs m) (sym (levels_of G ls N s.is.of)) lies.among))

    always : (us : List ℕ) → IsPass N l us → has us (get_or l.body p 0) ≡ true
    always us pass =
        let g = given G C ls N l V w s.is r s.below in
        let t = written_on_each N (code_of G C) l r (mark_of l.body w.masks.items r) g (sym (always_is G C ls N l V w s.is r s.below) ∙ first.0) us pass in
        let u = some_writes_it (code_of G C) us r t in
        subst (λ q. has us q ≡ true) (alone u.0 (pass_inside N l us u.0 pass u.1) u.2) u.1

pub moves : (G : Graph) (C : CellMap) (ls : List Level) (N : Nest) (l : Level) (V : ℕ → ℕ → Option Fact) (w : Words) (r : ℕ) → Register G C ls N l V w r → (by : Writers) → AreWriters w.flow (length l.body) r by → (z : ℤ) → step_by ls l w r by ≡ Some z → IsInduction N (code_of G C) V l r z
moves G C ls N l V w r s Nowhere a z e = absurd (cc)
moves G C ls N l V w r s (At p) a z e = moves_at G C ls N l V w r s p a z e
moves G C ls N l V w r s Several a z e = absurd (cc)

-- one without is none
pub stays_at : (G : Graph) (C : CellMap) (ls : List Level) (N : Nest) (l : Level) (V : ℕ → ℕ → Option Fact) (w : Words) (r : ℕ) → Register G C ls N l V w r → (p : ℕ) → AreWriters w.flow (length l.body) r (At p) → step_of_place ls l w r p ≡ None → (z : ℤ) → ¬ IsInduction N (code_of G C) V l r z
stays_at G C ls N l V w r s p a e z i = by (has_bit w.always r) (deeper ls l (get_or l.body p 0)) refl refl e
  where
    here : i.word ≡ get_or l.body p 0
    here = sym (i.alone (get_or l.body p 0) (has_at l.body p a.0) (sym (writes_at G C ls l.body w s.is.words.flow p r a.0) ∙ a.1))

    g : Given N (code_of G C) l r (mark_of l.body w.masks.items r)
    g = given G C ls N l V w s.is r s.below

    missed : has_bit w.always r ≡ false → ⊥
    missed f =
        let u = unwritten_pass N (code_of G C) l r (mark_of l.body w.masks.items r) g (sym (always_is G C ls N l V w s.is r s.below) ∙ f) in
        yes_no (any_writes (code_of G C) u.0 r) (has_write (code_of G C) u.0 i.word r (i.always u.0 u.1) i.does) u.2

    deep : deeper ls l (get_or l.body p 0) ≡ true → ⊥
    deep t =
        let m = deeper_one ls l (get_or l.body p 0) t in
        let d = round_parts l m.0 (get_or l.body p 0) m.2 in
        let lies : LiesIn N l m.0 = record { among = subst (λ (xs : List Level). In xs m.0) (levels_of G ls N s.is.of) m.1; header = d.1; other = λ q. d.0 (ap (λ (y : Level). y.header) q) } in
        yes_no (has (m.0).body (get_or l.body p 0)) d.2 (subst (λ q. has (m.0).body q ≡ false) here (i.outermost m.0 lies))

    step : step_at w p r ≡ None → ⊥
    step f =
        let q = past_is G C ls N l V w s.is p r a.0 ∙ sym (ap (λ u. fact_after (code_of G C) u (V u) r) here) ∙ i.adds in
        none (sym f ∙ is_step (past w.flow w.points.items p r) r z q i.small)
      where
        none : None ≡ Some z → ⊥
        none h = absurd (cc)

    by : (b c : Bool) → has_bit w.always r ≡ b → deeper ls l (get_or l.body p 0) ≡ c → (if b then (if c then None else step_at w p r) else None) ≡ None → ⊥
    by false c f h e = missed f
    by true true f h e = deep h
    by true false f h e = step e

pub stays : (G : Graph) (C : CellMap) (ls : List Level) (N : Nest) (l : Level) (V : ℕ → ℕ → Option Fact) (w : Words) (r : ℕ) → Register G C ls N l V w r → (by : Writers) → AreWriters w.flow (length l.body) r by → step_by ls l w r by ≡ None → (z : ℤ) → ¬ IsInduction N (code_of G C) V l r z
stays G C ls N l V w r s Nowhere a e z i = yes_no (writes (code_of G C) i.word r) i.does (unwritten G C ls N l V w r s a i.word i.inside)
stays G C ls N l V w r s (At p) a e z i = stays_at G C ls N l V w r s p a e z i
stays G C ls N l V w r s Several a e z i = a.4 (same_place l.body (body_rises G ls N l s.is.nest s.is.of s.is.among) a.0 a.1 a.2 a.3 (here a.0 a.2 a.5 ∙ sym (here a.1 a.3 a.6)))
  where
    here : (p : ℕ) → p < length l.body → place_writes w.flow p r ≡ true → get_or l.body p 0 ≡ i.word
    here p lp t = i.alone (get_or l.body p 0) (has_at l.body p lp) (sym (writes_at G C ls l.body w s.is.words.flow p r lp) ∙ t)

-- each pass of the root writes it, and before any read
pub private : (G : Graph) (C : CellMap) (ls : List Level) (N : Nest) (V : ℕ → ℕ → Option Fact) (w : Words) (r : ℕ) → Register G C ls N N.root V w r → IsPrivateAt w r → IsPrivate N (code_of G C) r
private G C ls N V w r s k = record { written = written_each; before = before }
  where
    g : Given N (code_of G C) N.root r (mark_of N.root.body w.masks.items r)
    g = given G C ls N N.root V w s.is r s.below

    written_each : (us : List ℕ) → IsPass N N.root us → any_writes (code_of G C) us r ≡ true
    written_each us pass = written_on_each N (code_of G C) N.root r (mark_of N.root.body w.masks.items r) g (sym (always_is G C ls N N.root V w s.is r s.below) ∙ k.written) us pass

    before : (us : List ℕ) (u : ℕ) → IsPassTo N N.root us u → Holds N.root u → reads (code_of G C) u r ≡ true → any_writes (code_of G C) us r ≡ true
    before us u way h t =
        let p = place_of_word N.root.body u h in
        let n = s.is.words.sized.instrs in
        let e = reads_at G C ls N.root.body w s.is.words.flow p.0 r p.1 ∙ ap (λ q. reads (code_of G C) q r) p.2 ∙ t in
        let m = mark_here G C ls N N.root V w s.is p.0 r p.1 ∙ k.before p.0 (omega arith) e in
        marked N (code_of G C) N.root r (mark_of N.root.body w.masks.items r) g us u way (sym (ap (mark_of N.root.body w.masks.items r) p.2) ∙ m)

pub not_private : (G : Graph) (C : CellMap) (ls : List Level) (N : Nest) (V : ℕ → ℕ → Option Fact) (w : Words) (r : ℕ) → Register G C ls N N.root V w r → IsNotPrivateAt w r → ¬ IsPrivate N (code_of G C) r
not_private G C ls N V w r s (inl f) k =
    let g = given G C ls N N.root V w s.is r s.below in
    let u = unwritten_pass N (code_of G C) N.root r (mark_of N.root.body w.masks.items r) g (sym (always_is G C ls N N.root V w s.is r s.below) ∙ f) in
    yes_no (any_writes (code_of G C) u.0 r) (k.written u.0 u.1) u.2
not_private G C ls N V w r s (inr f) k =
    let g = given G C ls N N.root V w s.is r s.below in
    let n = s.is.words.sized.instrs in
    let l : f.place < length N.root.body = let b = f.within in omega arith in
    let h = has_at N.root.body f.place l in
    let m = mark_here G C ls N N.root V w s.is f.place r l ∙ f.unwritten in
    let u = unmarked N (code_of G C) N.root r (mark_of N.root.body w.masks.items r) g (get_or N.root.body f.place 0) h m in
    yes_no (any_writes (code_of G C) u.words r) (k.before u.words (get_or N.root.body f.place 0) u.way h (sym (reads_at G C ls N.root.body w s.is.words.flow f.place r l) ∙ f.reads)) u.none
