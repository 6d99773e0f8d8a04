-- A nest of two loops has all that a nest promises, so nothing that is asked of it is out of reach.
--    0  ld    x9, 0(x2)
--    4  addi  x6, x0, 0
--    8  addi  x6, x6, 1        the inner loop's header
--   12  bne   x6, x8, 8
--   16  sd    x6, 8(x2)
--   20  addiw x5, x5, 1
--   24  bne   x5, x9, 0
use Rattle.std.proofs.Common.{◌≡◌, ◌≢◌, ℕ, ◌<◌, ◌⊎◌, inl, inr, List, [], ◌∷◌, Bool, true, false, Some, refl, ap, sym, subst, arith, rules, if◌then◌else◌, ◌==◌, ◌↔◌, pos, negsuc}
use Rattle.std.specs.List.{Contains}
use Rattle.std.specs.List.Sorted.{IsStrictlyIncreasing}
use Rattle.rv64_decode.specs.declared.instr.Instr.TheVariants.{AluImm, Load, Store, Branch}
use Rattle.rv64_decode.specs.declared.instr.ImmOp.TheVariants.{Addi, Addiw}
use Rattle.rv64_decode.specs.declared.instr.LoadOp.TheVariants.{Ld}
use Rattle.rv64_decode.specs.declared.instr.StoreOp.TheVariants.{Sd}
use Rattle.rv64_decode.specs.declared.instr.BranchOp.TheVariants.{Bne}
use Rattle.loop_data.specs.declared.graph.Word.{Word as LoopWord}
use Rattle.loop_data.specs.declared.graph.Graph.{Graph}
use Rattle.loop_data.specs.declared.shape.Level.{Level}
use Rattle.loop_data.specs.Nests.{Nest, has, leads_in, nest_of, Among, Edge, IsPass, ClosesNone, IsRank, IsEntered, HasSides, AreNested, HasShapes, IsNest}
use Rattle.std.proofs.lemmas.Bool.Decides.{nat_tests}
use Rattle.loop_data.specs.Paths.{Leads}
use Rattle.loop_data.specs.Instructions.{Means, IsBranch}
use Rattle.loop_data.specs.LoopWords.{IsLoopWord, AreNest}
use Rattle.loop_data.proofs.Lists.{to_in, from_in}
use Rattle.loop_data.proofs.Steps.{leads_is, is_leads}
use Rattle.loop_data.proofs.Tests.{eq_of, ne_of, is_eq, yes_no}

abbrev pub root : Level
root = record { header = 0; body = 0 ∷ 4 ∷ 8 ∷ 12 ∷ 16 ∷ 20 ∷ 24 ∷ []; back = 24; exit = 24; depth = 0 }

abbrev pub inside : Level
inside = record { header = 8; body = 8 ∷ 12 ∷ []; back = 12; exit = 12; depth = 1 }

abbrev word : ℕ → ℕ → List ℕ → LoopWord
word at bits steps = record { at = at; bits = bits; steps = record { items = steps } }

abbrev pub graph : Graph
graph =
    record {
      words = word 0 0x0001_3483 (4 ∷ []) ∷ word 4 0x0000_0313 (8 ∷ []) ∷ word 8 0x0013_0313 (12 ∷ []) ∷ word 12 0xFE83_1EE3 (16 ∷ 8 ∷ [])
          ∷ word 16 0x0061_3423 (20 ∷ []) ∷ word 20 0x0012_829B (24 ∷ []) ∷ word 24 0xFE92_94E3 (28 ∷ 0 ∷ []) ∷ [];
      starts = 0 ∷ [];
    }

abbrev leads_at : ℕ → ℕ → Bool
leads_at u v = leads_in graph.words u v

abbrev pub nest : Nest
nest = nest_of graph root (inside ∷ [])

-- a word of the root
data Word : ℕ → Type 0 where
  w0 : Word 0
  w4 : Word 4
  w8 : Word 8
  w12 : Word 12
  w16 : Word 16
  w20 : Word 20
  w24 : Word 24

word_is : (u : ℕ) → has root.body u ≡ true → Word u
word_is u = go (0 == u) (4 == u) (8 == u) (12 == u) (16 == u) (20 == u) (24 == u) refl refl refl refl refl refl refl
  where
    go : (a b c d e f g : Bool) → (0 == u) ≡ a → (4 == u) ≡ b → (8 == u) ≡ c → (12 == u) ≡ d → (16 == u) ≡ e → (20 == u) ≡ f → (24 == u) ≡ g
        → (if a then true else (if b then true else (if c then true else (if d then true else (if e then true else (if f then true else (if g then true else false))))))) ≡ true → Word u
    go true b c d e f g p _ _ _ _ _ _ h = subst Word (eq_of 0 u p) w0
    go false true c d e f g _ p _ _ _ _ _ h = subst Word (eq_of 4 u p) w4
    go false false true d e f g _ _ p _ _ _ _ h = subst Word (eq_of 8 u p) w8
    go false false false true e f g _ _ _ p _ _ _ h = subst Word (eq_of 12 u p) w12
    go false false false false true f g _ _ _ _ p _ _ h = subst Word (eq_of 16 u p) w16
    go false false false false false true g _ _ _ _ _ p _ h = subst Word (eq_of 20 u p) w20
    go false false false false false false true _ _ _ _ _ _ p h = subst Word (eq_of 24 u p) w24
    go false false false false false false false _ _ _ _ _ _ _ h = absurd (cc)

-- where a word is reached from
from_0 : (u : ℕ) → leads_at u 0 ≡ true → u ≡ 24
from_0 u e = grind (arith, nat_tests)

from_4 : (u : ℕ) → leads_at u 4 ≡ true → u ≡ 0
from_4 u e = grind (arith, nat_tests)

from_8 : (u : ℕ) → leads_at u 8 ≡ true → (u ≡ 4) ⊎ (u ≡ 12)
from_8 u e = grind (arith, nat_tests)

from_12 : (u : ℕ) → leads_at u 12 ≡ true → u ≡ 8
from_12 u e = grind (arith, nat_tests)

from_16 : (u : ℕ) → leads_at u 16 ≡ true → u ≡ 12
from_16 u e = grind (arith, nat_tests)

from_20 : (u : ℕ) → leads_at u 20 ≡ true → u ≡ 16
from_20 u e = grind (arith, nat_tests)

from_24 : (u : ℕ) → leads_at u 24 ≡ true → u ≡ 20
from_24 u e = grind (arith, nat_tests)

data Inner : ℕ → Type 0 where
  i8 : Inner 8
  i12 : Inner 12

inner_is : (u : ℕ) → has inside.body u ≡ true → Inner u
inner_is u = go (8 == u) (12 == u) refl refl
  where
    go : (a b : Bool) → (8 == u) ≡ a → (12 == u) ≡ b → (if a then true else (if b then true else false)) ≡ true → Inner u
    go true b p q h = subst Inner (eq_of 8 u p) i8
    go false true p q h = subst Inner (eq_of 12 u q) i12
    go false false p q h = absurd (cc)

inner_in : (u : ℕ) → has inside.body u ≡ true → has root.body u ≡ true
inner_in u h = by u (inner_is u h)
  where
    by : (u : ℕ) → Inner u → has root.body u ≡ true
    by _ i8 = refl
    by _ i12 = refl

-- the two loops
data Loop : Level → Type 0 where
  outer : Loop root
  inner : Loop inside

loop_is : (l : Level) → (root ≡ l) ⊎ ((inside ≡ l) ⊎ ⊥) → Loop l
loop_is l (inl e) = subst Loop e outer
loop_is l (inr (inl e)) = subst Loop e inner
loop_is l (inr (inr e)) = absurd e

bodies : AreNested nest
bodies =
    record {
      header = λ l i. header l (loop_is l i);
      within = λ l i x h. within l (loop_is l i) x h;
      enter = λ l i u v d hu hv. enter l (loop_is l i) u v d hu hv;
      nested = λ l m i j h x a. nested l m (loop_is l i) (loop_is m j) h x a;
      apart = λ l m i j h k. apart l m (loop_is l i) (loop_is m j) h k;
      alone = λ l m i j e x a b. alone l m (loop_is l i) (loop_is m j) e;
      deeper = λ l m i j lt x a b. deeper l m (loop_is l i) (loop_is m j) lt;
      outermost = refl;
      inner_deep = λ l i e. deep l i e;
      depth = λ l i. depth l (loop_is l i);
      between = λ m i e. between m (loop_is m i) e;
      distinct = (λ i. i, tt);
      inner_header = λ l i e. other l i e;
    }
  where
    header : (l : Level) → Loop l → has l.body l.header ≡ true
    header _ outer = refl
    header _ inner = refl

    within : (l : Level) → Loop l → (x : ℕ) → has l.body x ≡ true → has root.body x ≡ true
    within _ outer x h = h
    within _ inner x h = inner_in x h

    enter : (l : Level) → Loop l → (u v : ℕ) → Edge nest root.body u v → has l.body u ≡ false → has l.body v ≡ true → v ≡ l.header
    enter _ outer u v d hu hv = absurd (yes_no _ d.from hu)
    enter _ inner u v d hu hv = by v (inner_is v hv) d.leads
      where
        by : (v : ℕ) → Inner v → leads_at u v ≡ true → v ≡ 8
        by _ i8 e = refl
        by _ i12 e = absurd (yes_no _ (subst (λ z. has inside.body z ≡ true) (sym (from_12 u e)) refl) hu)

    alone : (l m : Level) → Loop l → Loop m → l.depth ≡ m.depth → l ≡ m
    alone _ _ outer outer e = refl
    alone _ _ inner inner e = refl
    alone _ _ outer inner e = absurd (omega arith)
    alone _ _ inner outer e = absurd (omega arith)

    nested : (l m : Level) → Loop l → Loop m → has m.body l.header ≡ true → (x : ℕ) → has l.body x ≡ true → has m.body x ≡ true
    nested _ _ outer outer h x a = a
    nested _ _ inner inner h x a = a
    nested _ _ inner outer h x a = inner_in x a
    nested _ _ outer inner h x a = absurd (cc)

    apart : (l m : Level) → Loop l → Loop m → has m.body l.header ≡ true → has l.body m.header ≡ true → l ≡ m
    apart _ _ outer outer h k = refl
    apart _ _ inner inner h k = refl
    apart _ _ outer inner h k = absurd (cc)
    apart _ _ inner outer h k = absurd (cc)

    deeper : (l m : Level) → Loop l → Loop m → l.depth < m.depth → has l.body m.header ≡ true
    deeper _ _ outer inner lt = refl
    deeper _ _ outer outer lt = refl
    deeper _ _ inner inner lt = refl
    deeper _ _ inner outer lt = absurd (omega arith)

    between : (m : Level) → Loop m → m.depth ≡ 2 → (l : Level) × Among nest l × (l.depth ≡ 1) × (has l.body m.header ≡ true)
    between _ outer e = absurd (omega arith)
    between _ inner e = absurd (omega arith)

    depth : (l : Level) → Loop l → l.depth < 3
    depth _ outer = omega arith
    depth _ inner = omega arith

    deep : (l : Level) → (inside ≡ l) ⊎ ⊥ → l.depth ≡ 0 → ⊥
    deep l (inl q) e = let d = ap (λ (z : Level). z.depth) q in omega arith
    deep l (inr q) e = q

    other : (l : Level) → (inside ≡ l) ⊎ ⊥ → l.header ≡ 0 → ⊥
    other l (inl q) e = let d = ap (λ (z : Level). z.header) q in omega arith
    other l (inr q) e = q

lie : (l : Level) → Loop l → (ys : List ℕ) → IsPass nest l ys → has ys l.exit ≡ true
lie _ outer [] p = absurd p
lie _ outer (y ∷ ys) p = ap (λ b. if b then true else has ys 24) (is_eq y 24 (from_0 y (p.0).leads))
lie _ inner [] p = absurd p
lie _ inner (y ∷ ys) p = ap (λ b. if b then true else has ys 12) (is_eq y 12 (twelve y (inner_is y (p.0).from) (from_8 y (p.0).leads)))
  where
    twelve : (y : ℕ) → Inner y → (y ≡ 4) ⊎ (y ≡ 12) → y ≡ 12
    twelve y i (inr q) = q
    twelve _ i8 (inl q) = absurd (omega arith)
    twelve _ i12 (inl q) = refl

-- the addresses are a rank
ranks : IsRank nest (λ u. u) 25
ranks = record { up = λ u v d f. up u v (word_is u d.from) (word_is v d.to) d.leads f; below = λ u h. below u (word_is u h) }
  where
    below : (u : ℕ) → Word u → u < 25
    below _ w0 = omega arith
    below _ w4 = omega arith
    below _ w8 = omega arith
    below _ w12 = omega arith
    below _ w16 = omega arith
    below _ w20 = omega arith
    below _ w24 = omega arith

    up : (u v : ℕ) → Word u → Word v → leads_at u v ≡ true → ClosesNone nest u v → u < v
    up u _ w w0 e f = absurd (f root (inl refl) (subst (λ z. has root.body z ≡ true) (sym (from_0 u e)) refl) refl)
    up u _ w w4 e f = let q = from_4 u e in omega arith
    up u _ w w8 e f = by (from_8 u e)
      where
        by : (u ≡ 4) ⊎ (u ≡ 12) → u < 8
        by (inl q) = omega arith
        by (inr q) = absurd (f inside (inr (inl refl)) (subst (λ z. has inside.body z ≡ true) (sym q) refl) refl)
    up u _ w w12 e f = let q = from_12 u e in omega arith
    up u _ w w16 e f = let q = from_16 u e in omega arith
    up u _ w w20 e f = let q = from_20 u e in omega arith
    up u _ w w24 e f = let q = from_24 u e in omega arith

-- which word leads to each
entered : (v : ℕ) → Word v → v ≢ 0 → IsEntered nest v
entered _ w0 ne = absurd (ne refl)
entered _ w4 ne = record { from = 0; edge = record { from = refl; to = refl; leads = refl }; outside = λ l i e. out l (loop_is l i) e }
  where
    out : (l : Level) → Loop l → 4 ≡ l.header → has l.body 0 ≡ false
    out _ outer e = absurd (omega arith)
    out _ inner e = absurd (omega arith)
entered _ w8 ne = record { from = 4; edge = record { from = refl; to = refl; leads = refl }; outside = λ l i e. out l (loop_is l i) e }
  where
    out : (l : Level) → Loop l → 8 ≡ l.header → has l.body 4 ≡ false
    out _ outer e = absurd (omega arith)
    out _ inner e = refl
entered _ w12 ne = record { from = 8; edge = record { from = refl; to = refl; leads = refl }; outside = λ l i e. out l (loop_is l i) e }
  where
    out : (l : Level) → Loop l → 12 ≡ l.header → has l.body 8 ≡ false
    out _ outer e = absurd (omega arith)
    out _ inner e = absurd (omega arith)
entered _ w16 ne = record { from = 12; edge = record { from = refl; to = refl; leads = refl }; outside = λ l i e. out l (loop_is l i) e }
  where
    out : (l : Level) → Loop l → 16 ≡ l.header → has l.body 12 ≡ false
    out _ outer e = absurd (omega arith)
    out _ inner e = absurd (omega arith)
entered _ w20 ne = record { from = 16; edge = record { from = refl; to = refl; leads = refl }; outside = λ l i e. out l (loop_is l i) e }
  where
    out : (l : Level) → Loop l → 20 ≡ l.header → has l.body 16 ≡ false
    out _ outer e = absurd (omega arith)
    out _ inner e = absurd (omega arith)
entered _ w24 ne = record { from = 20; edge = record { from = refl; to = refl; leads = refl }; outside = λ l i e. out l (loop_is l i) e }
  where
    out : (l : Level) → Loop l → 24 ≡ l.header → has l.body 20 ≡ false
    out _ outer e = absurd (omega arith)
    out _ inner e = absurd (omega arith)

-- a word leads on inside its loop, but where the loop is left
leads_on : (l : Level) → Loop l → (u v : ℕ) → has l.body u ≡ true → u ≢ l.exit → leads_at u v ≡ true → has l.body v ≡ true
leads_on _ outer u v h ne e = on v (0 == v) (4 == v) (8 == v) (12 == v) (16 == v) (20 == v) (24 == v) refl refl refl refl refl refl refl e
  where
    exit : (v : ℕ) → 0 ≢ v → 4 ≢ v → 8 ≢ v → 12 ≢ v → 16 ≢ v → 20 ≢ v → 24 ≢ v → leads_at u v ≡ true → u ≡ 24
    exit v a b c d f g i e = grind (arith, nat_tests)

    on : (v : ℕ) (a b c d f g i : Bool) → (0 == v) ≡ a → (4 == v) ≡ b → (8 == v) ≡ c → (12 == v) ≡ d → (16 == v) ≡ f → (20 == v) ≡ g → (24 == v) ≡ i → leads_at u v ≡ true
        → (if a then true else (if b then true else (if c then true else (if d then true else (if f then true else (if g then true else (if i then true else false))))))) ≡ true
    on v true b c d f g i _ _ _ _ _ _ _ e = refl
    on v false true c d f g i _ _ _ _ _ _ _ e = refl
    on v false false true d f g i _ _ _ _ _ _ _ e = refl
    on v false false false true f g i _ _ _ _ _ _ _ e = refl
    on v false false false false true g i _ _ _ _ _ _ _ e = refl
    on v false false false false false true i _ _ _ _ _ _ _ e = refl
    on v false false false false false false true _ _ _ _ _ _ _ e = refl
    on v false false false false false false false a b c d f g i e =
        absurd (ne (exit v (ne_of 0 v a) (ne_of 4 v b) (ne_of 8 v c) (ne_of 12 v d) (ne_of 16 v f) (ne_of 20 v g) (ne_of 24 v i) e))
leads_on _ inner u v h ne e = by u (inner_is u h) ne e
  where
    by : (u : ℕ) → Inner u → u ≢ 12 → leads_at u v ≡ true → has inside.body v ≡ true
    by _ i12 ne e = absurd (ne refl)
    by _ i8 ne e = let q : v ≡ 12 = to v e in subst (λ z. has inside.body z ≡ true) (sym q) refl
      where
        to : (v : ℕ) → leads_at 8 v ≡ true → v ≡ 12
        to v e = grind (arith, nat_tests)

shapes : HasShapes nest
shapes =
    record {
      closes = λ l i. closes l (loop_is l i);
      back = λ l i u d. back l (loop_is l i) u d;
      sides = λ l i. sides l (loop_is l i);
      stays_in = λ l i. leads_on l (loop_is l i);
      exits_lie = λ l i. lie l (loop_is l i);
      exit_outermost = λ l i. outermost l i;
      ranked = record { rank = λ u. u; bound = 25; is = ranks };
      entered = λ v h ne. entered v (word_is v h) ne;
    }
  where
    closes : (l : Level) → Loop l → Edge nest l.body l.back l.header
    closes _ outer = record { from = refl; to = refl; leads = refl }
    closes _ inner = record { from = refl; to = refl; leads = refl }

    back : (l : Level) → Loop l → (u : ℕ) → Edge nest l.body u l.header → u ≡ l.back
    back _ outer u d = from_0 u d.leads
    back _ inner u d = by u (inner_is u d.from) (from_8 u d.leads)
      where
        by : (u : ℕ) → Inner u → (u ≡ 4) ⊎ (u ≡ 12) → u ≡ 12
        by u i (inr q) = q
        by _ i8 (inl q) = absurd (omega arith)
        by _ i12 (inl q) = refl

    sides : (l : Level) → Loop l → HasSides nest l
    sides _ outer = record { inside = refl; on = 0; leads_on = refl; stays = refl; out = 28; leads_out = refl; leaves = refl }
    sides _ inner = record { inside = refl; on = 8; leads_on = refl; stays = refl; out = 16; leads_out = refl; leaves = refl }

    outermost : (l : Level) → (inside ≡ l) ⊎ ⊥ → has l.body 24 ≡ false
    outermost l (inl q) = subst (λ (z : Level). has z.body 24 ≡ false) q refl
    outermost l (inr q) = absurd q

is_nest : IsNest nest
is_nest = record { bodies = bodies; shapes = shapes }

-- the words of the program, and where each leads
to_0 : (v : ℕ) → leads_at 0 v ≡ true → v ≡ 4
to_0 v e = grind (arith, nat_tests)

to_4 : (v : ℕ) → leads_at 4 v ≡ true → v ≡ 8
to_4 v e = grind (arith, nat_tests)

to_8 : (v : ℕ) → leads_at 8 v ≡ true → v ≡ 12
to_8 v e = grind (arith, nat_tests)

to_12 : (v : ℕ) → leads_at 12 v ≡ true → (v ≡ 16) ⊎ (v ≡ 8)
to_12 v e = grind (arith, nat_tests)

to_16 : (v : ℕ) → leads_at 16 v ≡ true → v ≡ 20
to_16 v e = grind (arith, nat_tests)

to_20 : (v : ℕ) → leads_at 20 v ≡ true → v ≡ 24
to_20 v e = grind (arith, nat_tests)

to_24 : (v : ℕ) → leads_at 24 v ≡ true → (v ≡ 28) ⊎ (v ≡ 0)
to_24 v e = grind (arith, nat_tests)

-- a word that leads to one other word
onward : (u next v : ℕ) → ((v : ℕ) → leads_at u v ≡ true → v ≡ next) → leads_at u next ≡ true → Leads graph u v ↔ Contains (next ∷ []) v
onward u next v to e = (λ l. from_in (next ∷ []) v (inl (sym (to v (leads_is graph u v l)))), λ c. is_leads graph u v (back (to_in (next ∷ []) v c)))
  where
    back : (next ≡ v) ⊎ ⊥ → leads_at u v ≡ true
    back (inl q) = subst (λ z. leads_at u z ≡ true) q e
    back (inr i) = absurd i

-- and a branch
either : (u next target v : ℕ) → ((v : ℕ) → leads_at u v ≡ true → (v ≡ next) ⊎ (v ≡ target)) → leads_at u next ≡ true → leads_at u target ≡ true → Leads graph u v ↔ Contains (next ∷ target ∷ []) v
either u next target v to e f = (λ l. from_in (next ∷ target ∷ []) v (forth (to v (leads_is graph u v l))), λ c. is_leads graph u v (back (to_in (next ∷ target ∷ []) v c)))
  where
    forth : (v ≡ next) ⊎ (v ≡ target) → (next ≡ v) ⊎ ((target ≡ v) ⊎ ⊥)
    forth (inl q) = inl (sym q)
    forth (inr q) = inr (inl (sym q))

    back : (next ≡ v) ⊎ ((target ≡ v) ⊎ ⊥) → leads_at u v ≡ true
    back (inl q) = subst (λ z. leads_at u z ≡ true) q e
    back (inr (inl q)) = subst (λ z. leads_at u z ≡ true) q f
    back (inr (inr i)) = absurd i

means_12 : Means graph 12 (Some (Branch Bne 6 8 (negsuc 3)))
means_12 = record { word = _; among = (3, omega arith, refl); at = refl; means = refl }

means_24 : Means graph 24 (Some (Branch Bne 5 9 (negsuc 23)))
means_24 = record { word = _; among = (6, omega arith, refl); at = refl; means = refl }

loop_word : (u : ℕ) → Word u → IsLoopWord graph u
loop_word _ w0 = record { instr = Load Ld 9 2 (pos 0); means = record { word = _; among = (0, omega arith, refl); at = refl; means = refl }; plain = tt; aligned = refl; leads = λ v. onward 0 4 v to_0 refl }
loop_word _ w4 = record { instr = AluImm Addi 6 0 (pos 0); means = record { word = _; among = (1, omega arith, refl); at = refl; means = refl }; plain = tt; aligned = refl; leads = λ v. onward 4 8 v to_4 refl }
loop_word _ w8 = record { instr = AluImm Addi 6 6 (pos 1); means = record { word = _; among = (2, omega arith, refl); at = refl; means = refl }; plain = tt; aligned = refl; leads = λ v. onward 8 12 v to_8 refl }
loop_word _ w12 = record { instr = Branch Bne 6 8 (negsuc 3); means = means_12; plain = tt; aligned = refl; leads = λ v. either 12 16 8 v to_12 refl refl }
loop_word _ w16 = record { instr = Store Sd 2 6 (pos 8); means = record { word = _; among = (4, omega arith, refl); at = refl; means = refl }; plain = tt; aligned = refl; leads = λ v. onward 16 20 v to_16 refl }
loop_word _ w20 = record { instr = AluImm Addiw 5 5 (pos 1); means = record { word = _; among = (5, omega arith, refl); at = refl; means = refl }; plain = tt; aligned = refl; leads = λ v. onward 20 24 v to_20 refl }
loop_word _ w24 = record { instr = Branch Bne 5 9 (negsuc 23); means = means_24; plain = tt; aligned = refl; leads = λ v. either 24 28 0 v to_24 refl refl }

-- all that the levels of a loop promise
pub sample_is_nest : AreNest graph (root ∷ inside ∷ [])
sample_is_nest =
    record {
      root = root;
      inner = inside ∷ [];
      are = refl;
      few = omega arith;
      inner_ordered = search rules;
      nest = is_nest;
      ordered = λ l i. ordered l (loop_is l i);
      short = omega arith;
      words = λ u h. loop_word u (word_is u h);
      branches = λ l i. branch l (loop_is l i);
    }
  where
    ordered : (l : Level) → Loop l → IsStrictlyIncreasing l.body
    ordered _ outer = search rules
    ordered _ inner = search rules

    branch : (l : Level) → Loop l → IsBranch graph l.exit
    branch _ outer = record { op = Bne; rs1 = 5; rs2 = 9; imm = negsuc 23; means = means_24 }
    branch _ inner = record { op = Bne; rs1 = 6; rs2 = 8; imm = negsuc 3; means = means_12 }
