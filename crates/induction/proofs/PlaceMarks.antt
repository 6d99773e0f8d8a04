-- The masks of the words of a loop as marks at their addresses.
use Rattle.std.proofs.Common.{◌≡◌, ◌≢◌, ℕ, zero, suc, ◌<◌, ◌⊎◌, inl, inr, ◌==◌, ◌&&◌, ◌||◌, Bool, true, false, if◌then◌else◌, List, [], ◌∷◌, length, get_or, Option, None, refl, ap, sym, ◌∙◌, subst, arith}
use Rattle.std.specs.List.{Contains}
use Rattle.std.specs.List.Sorted.{IsStrictlyIncreasing}
use Rattle.std.proofs.lemmas.List.{get_or-map}
use Rattle.std.proofs.lemmas.List.Kept.{AllPairs-from_increasing}
use Rattle.rv64_decode.specs.declared.instr.Instr.{Instr}
use Rattle.loop_data.specs.declared.flow.Flow.{Flow}
use Rattle.loop_data.specs.declared.graph.Graph.{Graph}
use Rattle.loop_data.specs.declared.shape.Level.{Level}
use Rattle.loop_data.specs.Nests.{Nest, nest_of, has, In, Among, Holds, IsNest}
use Rattle.loop_data.specs.Locations.{CellMap, instr_writes, instr_reads}
use Rattle.loop_data.specs.LoopWords.{AreNest}
use Rattle.loop_data.specs.LoopCode.{instr_among, code_of, writes, reads, IsForwardIn}
use Rattle.loop_data.specs.Facts.{Fact}
use Rattle.loop_data.specs.Flows.{rows, row_at, at, HasSources, IsFlow}
use Rattle.loop_data.specs.Results.{IsNestOf}
use Rattle.loop_data.proofs.Tests.{is_eq, is_ne, true_or_false, and_true}
use Rattle.std.proofs.lemmas.List.Elements.{Contains-get_or}
use Rattle.loop_data.proofs.Steps.{contains_has}
use Rattle.loop_data.proofs.FlowEdges.{sources_forward, forward_sources, place_of_word}
use Rattle.induction.specs.declared.words.Words.{Words}
use Rattle.induction.specs.Marks.{marked_after, AreWriteMarks}
use Rattle.induction.specs.Masks.{has_bit, place_writes, place_reads, bit_after, all_after, mask_bit}
use Rattle.induction.specs.Words.{IsLoopOf}
use Rattle.induction.proofs.Marks.{Given}

pub has_at : (body : List ℕ) (k : ℕ) → k < length body → has body (at body k) ≡ true
has_at body k l = contains_has body (at body k) (Contains-get_or body k 0 l)

-- the bit of the mask at the place of an address
abbrev pub mark_of : List ℕ → List ℕ → ℕ → ℕ → Bool
mark_of [] masks r v = false
mark_of (b ∷ bs) [] r v = false
mark_of (b ∷ bs) (m ∷ ms) r v = if b == v then has_bit m r else mark_of bs ms r v

abbrev pub AreApart : List ℕ → Type 0
AreApart body = (i j : ℕ) → i < j → j < length body → get_or body i 0 ≢ get_or body j 0

pub apart_of : (body : List ℕ) → IsStrictlyIncreasing body → AreApart body
apart_of body up i j l m e = let lt = AllPairs-from_increasing body up i j 0 l m in absurd (omega arith)

mark_at : (body masks : List ℕ) (p r : ℕ) → AreApart body → p < length body → length masks ≡ length body → mark_of body masks r (get_or body p 0) ≡ has_bit (get_or masks p 0) r
mark_at [] masks p r d l c = absurd (omega arith)
mark_at (b ∷ bs) [] p r d l c = absurd (omega arith)
mark_at (b ∷ bs) (m ∷ ms) zero r d l c = ap (λ t. if t then has_bit m r else mark_of bs ms r b) (is_eq b b refl)
mark_at (b ∷ bs) (m ∷ ms) (suc p) r d l c =
    ap (λ t. if t then has_bit m r else mark_of bs ms r (get_or bs p 0)) (is_ne b (get_or bs p 0) (d 0 (suc p) (omega arith) l))
    ∙ mark_at bs ms p r (λ i j k n. d (suc i) (suc j) (omega arith) (omega arith)) (omega arith) (omega arith)

-- all of the places have it, or one has not
all_true : (f : Flow) (masks ks : List ℕ) (k r : ℕ) → all_after f masks ks r ≡ true → Contains ks k → bit_after f masks k r ≡ true
all_true f masks ks k r t c = go ks c.0 c.1 c.2 t
  where
    go : (ks : List ℕ) (i : ℕ) → i < length ks → get_or ks i k ≡ k → all_after f masks ks r ≡ true → bit_after f masks k r ≡ true
    go [] i l e t = absurd (omega arith)
    go (j ∷ js) zero l e t = subst (λ q. bit_after f masks q r ≡ true) e (and_true (bit_after f masks j r) (all_after f masks js r) t).0
    go (j ∷ js) (suc i) l e t = go js i (omega arith) e (and_true (bit_after f masks j r) (all_after f masks js r) t).1

some_false : (f : Flow) (masks ks : List ℕ) (r : ℕ) → all_after f masks ks r ≡ false → (k : ℕ) × Contains ks k × (bit_after f masks k r ≡ false)
some_false f masks [] r g = absurd (cc)
some_false f masks (j ∷ js) r h = by (true_or_false (bit_after f masks j r)) (some_false f masks js r)
  where
    and_rest : (a b : Bool) → a ≡ true → (a && b) ≡ false → b ≡ false
    and_rest true b e f = f
    and_rest false b e f = absurd (cc)

    by : (bit_after f masks j r ≡ true) ⊎ (bit_after f masks j r ≡ false) → (all_after f masks js r ≡ false → (k : ℕ) × Contains js k × (bit_after f masks k r ≡ false)) → (k : ℕ) × Contains (j ∷ js) k × (bit_after f masks k r ≡ false)
    by (inr g) later = (j, (0, omega arith, refl), g)
    by (inl t) later =
        let s = later (and_rest _ _ t h) in
        let c = s.1 in
        (s.0, (suc c.0, (let l = c.1 in omega arith), c.2), s.2)

-- the nest is that of the levels
pub is_nest : (G : Graph) (ls : List Level) (N : Nest) → AreNest G ls → IsNestOf G ls N → IsNest N
is_nest G ls N nest of =
    let e : nest.root ∷ nest.inner ≡ of.root ∷ of.inner = sym nest.are ∙ of.are in
    let r : nest.root ≡ of.root = cc in
    let i : nest.inner ≡ of.inner = cc in
    subst IsNest (sym of.is) (subst (λ (xs : List Level). IsNest (nest_of G of.root xs)) i (subst (λ (x : Level). IsNest (nest_of G x nest.inner)) r nest.nest))

pub levels_of : (G : Graph) (ls : List Level) (N : Nest) → IsNestOf G ls N → ls ≡ N.root ∷ N.inner
levels_of G ls N of = of.are ∙ ap (λ (M : Nest). M.root ∷ M.inner) (sym of.is)

pub body_rises : (G : Graph) (ls : List Level) (N : Nest) (l : Level) → AreNest G ls → IsNestOf G ls N → Among N l → IsStrictlyIncreasing l.body
body_rises G ls N l nest of i = nest.ordered l (subst (λ (xs : List Level). In xs l) (sym (levels_of G ls N of) ∙ nest.are) i)

-- what stands at a place
pub instr_at_place : (G : Graph) (C : CellMap) (ls : List Level) (body : List ℕ) (w : Words) → IsFlow G C ls body w.flow → (p : ℕ) → p < length body → get_or w.flow.instrs.items p None ≡ instr_among G.words (get_or body p 0)
instr_at_place G C ls body w f p l = ap (λ (xs : List (Option Instr)). get_or xs p None) f.instrs ∙ get_or-map (instr_among G.words) body p 0 None l

pub use_at_place : (G : Graph) (C : CellMap) (ls : List Level) (body : List ℕ) (w : Words) → IsFlow G C ls body w.flow → (p : ℕ) → p < length body → get_or w.flow.uses.items p None ≡ C.uses (get_or body p 0)
use_at_place G C ls body w f p l = ap (λ (xs : List (Option ℕ)). get_or xs p None) f.uses ∙ get_or-map C.uses body p 0 None l

pub writes_at : (G : Graph) (C : CellMap) (ls : List Level) (body : List ℕ) (w : Words) → IsFlow G C ls body w.flow → (p r : ℕ) → p < length body → place_writes w.flow p r ≡ writes (code_of G C) (get_or body p 0) r
writes_at G C ls body w f p r l =
    ap (λ (i : Option Instr). instr_writes i (get_or w.flow.uses.items p None) r) (instr_at_place G C ls body w f p l)
    ∙ ap (λ (c : Option ℕ). instr_writes (instr_among G.words (get_or body p 0)) c r) (use_at_place G C ls body w f p l)

pub reads_at : (G : Graph) (C : CellMap) (ls : List Level) (body : List ℕ) (w : Words) → IsFlow G C ls body w.flow → (p r : ℕ) → p < length body → place_reads w.flow p r ≡ reads (code_of G C) (get_or body p 0) r
reads_at G C ls body w f p r l =
    ap (λ (i : Option Instr). instr_reads i (get_or w.flow.uses.items p None) r) (instr_at_place G C ls body w f p l)
    ∙ ap (λ (c : Option ℕ). instr_reads (instr_among G.words (get_or body p 0)) c r) (use_at_place G C ls body w f p l)

-- the mark at the address of a place
pub mark_here : (G : Graph) (C : CellMap) (ls : List Level) (N : Nest) (l : Level) (V : ℕ → ℕ → Option Fact) (w : Words) → IsLoopOf G C ls N l V w → (p r : ℕ) → p < length l.body → mark_of l.body w.masks.items r (get_or l.body p 0) ≡ has_bit (get_or w.masks.items p 0) r
mark_here G C ls N l V w s p r lp = mark_at l.body w.masks.items p r (apart_of l.body (body_rises G ls N l s.nest s.of s.among)) lp s.words.sized.masks

pub after_here : (G : Graph) (C : CellMap) (ls : List Level) (N : Nest) (l : Level) (V : ℕ → ℕ → Option Fact) (w : Words) → IsLoopOf G C ls N l V w → (p r : ℕ) → p < length l.body → bit_after w.flow w.masks.items p r ≡ marked_after (code_of G C) (mark_of l.body w.masks.items r) (get_or l.body p 0) r
after_here G C ls N l V w s p r lp =
    ap (λ t. t || place_writes w.flow p r) (sym (mark_here G C ls N l V w s p r lp))
    ∙ ap (λ t. mark_of l.body w.masks.items r (get_or l.body p 0) || t) (writes_at G C ls l.body w s.words.flow p r lp)

pub place_marks : (G : Graph) (C : CellMap) (ls : List Level) (N : Nest) (l : Level) (V : ℕ → ℕ → Option Fact) (w : Words) → IsLoopOf G C ls N l V w → (r : ℕ) → r < 48 → AreWriteMarks N (code_of G C) l r (mark_of l.body w.masks.items r)
place_marks G C ls N l V w s r lr = record { header = header; each = each; some = some }
  where
    M : ℕ → Bool
    M = mark_of l.body w.masks.items r

    all : List (List ℕ)
    all = rows w.flow.sources.items

    sources : HasSources G (s.of.root ∷ s.of.inner) l.body (length l.body) all
    sources = subst (λ (xs : List Level). HasSources G xs l.body (length l.body) all) s.of.are s.words.flow.sources

    mask : (p : ℕ) → p < length l.body → M (get_or l.body p 0) ≡ mask_bit l.header l.body w.flow w.masks.items (row_at all p) p r
    mask p lp = mark_here G C ls N l V w s p r lp ∙ s.words.masks.each p lp r lr

    header : M l.header ≡ false
    header =
        let h = place_of_word l.body l.header ((is_nest G ls N s.nest s.of).bodies.header l s.among) in
        subst (λ v. M v ≡ false) h.2 (mask h.0 h.1 ∙ ap (λ t. if t then false else all_after w.flow w.masks.items (row_at all h.0) r) (is_eq (get_or l.body h.0 0) l.header h.2))

    row : (p : ℕ) → p < length l.body → get_or l.body p 0 ≢ l.header → M (get_or l.body p 0) ≡ all_after w.flow w.masks.items (row_at all p) r
    row p lp ne = mask p lp ∙ ap (λ t. if t then false else all_after w.flow w.masks.items (row_at all p) r) (is_ne (get_or l.body p 0) l.header ne)

    each : (u v : ℕ) → IsForwardIn N l.body u v → v ≢ l.header → M v ≡ true → marked_after (code_of G C) M u r ≡ true
    each u v f ne t =
        let a = place_of_word l.body u f.edge.from in
        let b = place_of_word l.body v f.edge.to in
        let g = subst (λ (q : ℕ). IsForwardIn (nest_of G s.of.root s.of.inner) l.body q (get_or l.body b.0 0)) (sym a.2) (subst (λ (q : ℕ). IsForwardIn (nest_of G s.of.root s.of.inner) l.body u q) (sym b.2) (subst (λ (K : Nest). IsForwardIn K l.body u v) s.of.is f)) in
        let c = forward_sources G s.of.root s.of.inner l.body all sources b.0 a.0 a.1 b.1 g in
        let m = sym (row b.0 b.1 (λ e. ne (sym b.2 ∙ e))) ∙ ap M b.2 ∙ t in
        subst (λ q. marked_after (code_of G C) M q r ≡ true) a.2 (sym (after_here G C ls N l V w s a.0 r a.1) ∙ all_true w.flow w.masks.items (row_at all b.0) a.0 r m c)

    some : (v : ℕ) → Holds l v → v ≢ l.header → M v ≡ false → (u : ℕ) × IsForwardIn N l.body u v × (marked_after (code_of G C) M u r ≡ false)
    some v h ne f =
        let b = place_of_word l.body v h in
        let m = sym (row b.0 b.1 (λ e. ne (sym b.2 ∙ e))) ∙ ap M b.2 ∙ f in
        let k = some_false w.flow w.masks.items (row_at all b.0) r m in
        let g = sources_forward G s.of.root s.of.inner l.body all sources b.0 k.0 k.1 in (
          get_or l.body k.0 0,
          subst (λ (K : Nest). IsForwardIn K l.body (get_or l.body k.0 0) v) (sym s.of.is) (subst (λ (q : ℕ). IsForwardIn (nest_of G s.of.root s.of.inner) l.body (get_or l.body k.0 0) q) b.2 g.1),
          sym (after_here G C ls N l V w s k.0 r g.0) ∙ k.2,
        )

-- the marks of the words of a loop of a nest
pub given : (G : Graph) (C : CellMap) (ls : List Level) (N : Nest) (l : Level) (V : ℕ → ℕ → Option Fact) (w : Words) → IsLoopOf G C ls N l V w → (r : ℕ) → r < 48 → Given N (code_of G C) l r (mark_of l.body w.masks.items r)
given G C ls N l V w s r lr = record { nest = is_nest G ls N s.nest s.of; among = s.among; marks = place_marks G C ls N l V w s r lr }

-- what each pass writes
pub always_is : (G : Graph) (C : CellMap) (ls : List Level) (N : Nest) (l : Level) (V : ℕ → ℕ → Option Fact) (w : Words) → IsLoopOf G C ls N l V w → (r : ℕ) → r < 48 → has_bit w.always r ≡ marked_after (code_of G C) (mark_of l.body w.masks.items r) l.back r
always_is G C ls N l V w s r lr =
    let b = place_of_word l.body l.back ((is_nest G ls N s.nest s.of).shapes.closes l s.among).from in
    s.words.always b.0 b.1 b.2 r lr ∙ after_here G C ls N l V w s b.0 r b.1 ∙ ap (λ q. marked_after (code_of G C) (mark_of l.body w.masks.items r) q r) b.2
