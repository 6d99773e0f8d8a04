-- An executable has one division.
use Rattle.std.proofs.Common.{◌≡◌, ◌≢◌, ◌==◌, ◌<◌, ◌+◌, ◌^◌, ◌++◌, ℕ, Bool, true, false, List, [], ◌∷◌, length, get_or, All, Some, refl, ap, sym, subst, ◌∙◌, arith}
use Rattle.std.proofs.lemmas.Bool.{eqb-true}
use Rattle.std.proofs.lemmas.Bool.Decides.{nat_tests}
use Rattle.std.proofs.lemmas.Grind.{same_number_lists}
use Rattle.std.proofs.lemmas.List.Elements.{All-head, All-tail, All-cons, All-get_or}
use Rattle.std.proofs.lemmas.Option.{get_or_from_slice_get, slice_get_within}
use Rattle.elf_image.specs.declared.image.Elf.{Elf}
use Rattle.rv64_decode.specs.Aim.{Aimed, distance}
use Rattle.rv64_decode.specs.XTable.{decoded_x}
use Rattle.rv64_decode.specs.declared.instr.Instr.TheVariants.{Jal}
use Rattle.rv64_decode.specs.declared.xinstr.XInstr.{XInstr}
use Rattle.rv64_decode.specs.declared.xinstr.XInstr.TheVariants.{Base}
use Rattle.loop_data.specs.declared.graph.Graph.{Graph}
use Rattle.loop_data.specs.declared.plans.Plan.{Plan}
use Rattle.loop_data.specs.declared.shape.Level.{Level}
use Rattle.loop_data.specs.declared.shape.LoopShape.{LoopShape}
use Rattle.loop_data.specs.Graphs.{IsGraph}
use Rattle.loop_data.specs.Independent.{Role}
use Rattle.loop_data.specs.LoopCode.{LoopCode}
use Rattle.loop_data.specs.Loops.{AreLoops}
use Rattle.loop_data.specs.Lookups.{roles_by}
use Rattle.alias_checks.specs.declared.lists.Check.{Check}
use Rattle.stub_laws.specs.Code.{readings, somes}
use Rattle.turn_copies.specs.StubWords.{IsStub}
use Rattle.image_writer.specs.declared.image.Entry.{Entry}
use Rattle.loop_choice.specs.declared.judged.Judged.{Judged}
use Rattle.loop_choice.specs.Choice.{AreChosen, AreTooMany, OneChoiceLaw}
use Rattle.loop_choice.specs.Judging.{IsOneOfLoops}
use Rattle.loop_choice.specs.OnePlan.{OnePlanLaw}
use Rattle.loop_choice.specs.OneVerdict.{OneVerdictLaw}
use Rattle.loop_division.specs.Division.{AreStubsOf, IsDivision, IsTooLong}
use Rattle.loop_division.specs.LoopVerdicts.{IsJudgedAs, AreJudgedAs, AreVerdicts, ChoosesTooMany}
use Rattle.loop_division.specs.OneDivision.{OneWordLaw, OneVerdictsLaw, OneDivisionLaw, ApartLaw, OneRefusalLaw}
use Rattle.loop_division.specs.Stubs.{Stub, AreShort, AreStubWords, AreWordsOf, IsStubAt, AreStubs, entries_of, words_of, words_with_cells}
use Rattle.loop_division.proofs.Words.{one_meaning_x}

-- the laws of what stands below
pub record Parts : Type 0 where
  pub graph : (elf : Elf) (g h : Graph) → IsGraph elf g → IsGraph elf h → g ≡ h
  pub loops : (G : Graph) (xs ys : List LoopShape) → AreLoops G xs → AreLoops G ys → xs ≡ ys
  pub verdict : OneVerdictLaw
  pub choice : OneChoiceLaw
  pub plan : OnePlanLaw

-- ---- words

both : {X : Type 0} {x y : X} {xs ys : List X} → x ≡ y → xs ≡ ys → x ∷ xs ≡ y ∷ ys
both e f = λ k. e k ∷ f k

same_words : OneWordLaw → (is : List XInstr) (vs ws : List ℕ) → AreShort vs → AreShort ws → readings vs ≡ somes is
    → readings ws ≡ somes is → vs ≡ ws
unfolding readings somes
same_words law [] [] [] sv sw e f = refl
same_words law [] [] (w ∷ ws) sv sw e f = absurd (cc)
same_words law [] (v ∷ vs) ws sv sw e f = absurd (cc)
same_words law (i ∷ is) [] ws sv sw e f = absurd (cc)
same_words law (i ∷ is) (v ∷ vs) [] sv sw e f = absurd (cc)
same_words law (i ∷ is) (v ∷ vs) (w ∷ ws) sv sw e f =
    let first : decoded_x v ≡ Some i = cc in
    let second : decoded_x w ≡ Some i = cc in
    let rest : readings vs ≡ somes is = cc in
    let others : readings ws ≡ somes is = cc in
    both
    (law i v w (All-head (λ (x : ℕ). x < 2 ^ 32) v vs sv) (All-head (λ (x : ℕ). x < 2 ^ 32) w ws sw) first second)
    (same_words law is vs ws (All-tail (λ (x : ℕ). x < 2 ^ 32) v vs sv) (All-tail (λ (x : ℕ). x < 2 ^ 32) w ws sw) rest others)

same_aim : (to k old v w : ℕ) → v < 2 ^ 32 → w < 2 ^ 32 → Aimed to k old v → Aimed to k old w → v ≡ w
same_aim to k old v w lv lw a b = go (old == 0x6F) refl
  where
    go : (t : Bool) → (old == 0x6F) ≡ t → v ≡ w
    go true e = let o = eqb-true old 0x6F e in one_meaning_x v w lv lw (Base (Jal 0 (distance to k))) (a.jumps o) (b.jumps o)
    go false e = let o : old ≢ 0x6F = grind (arith, nat_tests) in a.stays o ∙ sym (b.stays o)

same_aimed : (to : ℕ) (old vs ws : List ℕ) → AreShort vs → AreShort ws → length vs ≡ length old → length ws ≡ length old
    → ((k : ℕ) → k < length old → Aimed to k (get_or old k 0) (get_or vs k 0))
    → ((k : ℕ) → k < length old → Aimed to k (get_or old k 0) (get_or ws k 0)) → vs ≡ ws
same_aimed to old vs ws sv sw m n a b = same_number_lists vs ws (m ∙ sym n) each
  where
    each : (k : ℕ) → k < length vs → get_or vs k 0 ≡ get_or ws k 0
    each k l =
        same_aim to k (get_or old k 0) (get_or vs k 0) (get_or ws k 0)
        (All-get_or (λ (x : ℕ). x < 2 ^ 32) vs k 0 l sv)
        (All-get_or (λ (x : ℕ). x < 2 ^ 32) ws k 0 (omega arith) sw)
        (a k (omega arith)) (b k (omega arith))

-- both parts of short words are short
first_part : (vs ws : List ℕ) → AreShort (vs ++ ws) → AreShort vs
first_part [] ws s = λ k d l. absurd (omega arith)
first_part (v ∷ vs) ws s =
    All-cons (λ (x : ℕ). x < 2 ^ 32) v vs (All-head (λ (x : ℕ). x < 2 ^ 32) v (vs ++ ws) s)
    (first_part vs ws (All-tail (λ (x : ℕ). x < 2 ^ 32) v (vs ++ ws) s))

second_part : (vs ws : List ℕ) → AreShort (vs ++ ws) → AreShort ws
second_part [] ws s = s
second_part (v ∷ vs) ws s = second_part vs ws (All-tail (λ (x : ℕ). x < 2 ^ 32) v (vs ++ ws) s)

append_both : {X : Type 0} {xs ys vs ws : List X} → xs ≡ ys → vs ≡ ws → xs ++ vs ≡ ys ++ ws
append_both e f = λ k. e k ++ f k

same_stub : OneWordLaw → (l : Level) (B : LoopCode) (roles : ℕ → Role) (p : ℕ) (tests new other : List ℕ) → AreShort new
    → AreShort other → IsStub l B roles p tests new → IsStub l B roles p tests other → new ≡ other
same_stub law l B roles p tests new other sn so a b =
    let short = subst AreShort a.are sn in
    let second = subst AreShort b.are so in
    let rest = second_part a.saved (a.aimed ++ a.divided) short in
    let others = second_part b.saved (b.aimed ++ b.divided) second in
    a.are
    ∙ append_both
    (same_words law _ a.saved b.saved (first_part a.saved _ short) (first_part b.saved _ second) a.saves b.saves)
    (append_both
    (same_aimed _ tests a.aimed b.aimed (first_part a.aimed _ rest) (first_part b.aimed _ others) a.many b.many a.aims b.aims)
    (same_words law _ a.divided b.divided (second_part a.aimed _ rest) (second_part b.aimed _ others) a.divides b.divides))
    ∙ sym b.are

-- ---- stubs

same_stub_words : OneWordLaw → (G : Graph) (plan : Plan) (check : Check) (p : ℕ) (words others : List ℕ)
    → AreStubWords G plan check p words → AreStubWords G plan check p others → words ≡ others
same_stub_words law G plan check p words others a b =
    let lists : a.root ∷ a.inner ≡ b.root ∷ b.inner = sym a.levels ∙ b.levels in
    let root : b.root ≡ a.root = cc in
    let tests : b.tests ≡ a.tests = same_words law _ b.tests a.tests b.stub.small a.stub.small b.tell a.tell in
    let by_root = subst (λ (r : Level). IsStub r (words_with_cells G plan)
    (roles_by (words_with_cells G plan) plan.shape.levels plan.classes r) p b.tests others) root b.stub in
    let by_tests = subst (λ (t : List ℕ). IsStub a.root (words_with_cells G plan)
    (roles_by (words_with_cells G plan) plan.shape.levels plan.classes a.root) p t others) tests by_root in
    same_stub law a.root (words_with_cells G plan)
    (roles_by (words_with_cells G plan) plan.shape.levels plan.classes a.root) p a.tests words others a.short b.short a.stub
    by_tests

module _ (word : OneWordLaw) (parts : Parts) (elf : Elf) (G : Graph) (is : IsGraph elf G) where
  same_added : (shape : LoopShape) (p : ℕ) (words others : List ℕ) → IsOneOfLoops G shape
      → AreWordsOf elf G shape p words → AreWordsOf elf G shape p others → words ≡ others
  same_added shape p words others one a b =
      let e = parts.plan elf G shape b.plan a.plan b.check a.check is one b.planned a.planned in
      let by_plan = subst (λ (q : Plan). AreStubWords G q b.check p others) e.0 b.are in
      let by_check = subst (λ (c : Check). AreStubWords G a.plan c p others) e.1 by_plan in
      same_stub_words word G a.plan a.check p words others a.are by_check

  same_stub_at : (shapes : List LoopShape) → All (IsOneOfLoops G) shapes → (place p : ℕ) (x y : Stub)
      → IsStubAt elf G shapes place p x → IsStubAt elf G shapes place p y → x ≡ y
  same_stub_at shapes each place p x y a b =
      let shape : b.shape ≡ a.shape = let e = a.is in let f = b.is in cc in
      let found = get_or_from_slice_get shapes place a.shape a.shape a.is in
      let one = subst (IsOneOfLoops G) found
      (All-get_or (IsOneOfLoops G) shapes place a.shape (slice_get_within shapes place a.shape a.is) each) in
      let header : x.header ≡ y.header = a.header ∙ sym (ap (λ (s : LoopShape). s.header) shape) ∙ sym b.header in
      let moved = subst (λ (s : LoopShape). AreWordsOf elf G s p y.words) shape b.words in
      let words = same_added a.shape p x.words y.words one a.words moved in
      λ k. record { header = header k; words = words k }

  same_stubs : (shapes : List LoopShape) → All (IsOneOfLoops G) shapes → (places : List ℕ) (p : ℕ) (xs ys : List Stub)
      → AreStubs elf G shapes places p xs → AreStubs elf G shapes places p ys → xs ≡ ys
  same_stubs shapes each [] p [] [] a b = refl
  same_stubs shapes each [] p [] (y ∷ ys) a b = absurd b
  same_stubs shapes each [] p (x ∷ xs) ys a b = absurd a
  same_stubs shapes each (place ∷ places) p [] ys a b = absurd a
  same_stubs shapes each (place ∷ places) p (x ∷ xs) [] a b = absurd b
  same_stubs shapes each (place ∷ places) p (x ∷ xs) (y ∷ ys) a b =
      let first = same_stub_at shapes each place p x y a.0 b.0 in
      let moved = subst (λ (s : Stub). AreStubs elf G shapes places (p + length s.words) ys) (sym first) b.1 in
      both first (same_stubs shapes each places (p + length x.words) xs ys a.1 moved)

  -- ---- verdicts

  same_judged : (s : LoopShape) → IsOneOfLoops G s → (x y : Judged) → IsJudgedAs G s x → IsJudgedAs G s y → x ≡ y
  same_judged s one x y p q =
      let header : x.header ≡ y.header = p.header ∙ sym q.header in
      let body : x.body ≡ y.body = p.body ∙ sym q.body in
      let verdict : x.verdict ≡ y.verdict = parts.verdict elf G s x.verdict y.verdict is one p.verdict q.verdict in
      let plan : x.plan ≡ y.plan = p.plan ∙ sym q.plan in
      λ k. record { header = header k; body = body k; verdict = verdict k; plan = plan k }

  same_all : (shapes : List LoopShape) → All (IsOneOfLoops G) shapes → (xs ys : List Judged) → AreJudgedAs G shapes xs
      → AreJudgedAs G shapes ys → xs ≡ ys
  same_all [] each [] [] p q = refl
  same_all [] each [] (y ∷ ys) p q = absurd q
  same_all [] each (x ∷ xs) ys p q = absurd p
  same_all (s ∷ shapes) each [] ys p q = absurd p
  same_all (s ∷ shapes) each (x ∷ xs) [] p q = absurd q
  same_all (s ∷ shapes) each (x ∷ xs) (y ∷ ys) p q =
      both (same_judged s (All-head (IsOneOfLoops G) s shapes each) x y p.0 q.0)
      (same_all shapes (All-tail (IsOneOfLoops G) s shapes each) xs ys p.1 q.1)

-- ---- divisions

module _ (word : OneWordLaw) (parts : Parts) (elf : Elf) where
  -- verdicts, moved to the graph and the loops of others
  moved_verdicts : (G H : Graph) (shapes loops : List LoopShape) (all : List Judged) → G ≡ H → shapes ≡ loops
      → AreVerdicts elf G shapes all → AreVerdicts elf H loops all
  moved_verdicts G H shapes loops all e f a =
      subst (λ (ss : List LoopShape). AreVerdicts elf H ss all) f (subst (λ (g : Graph). AreVerdicts elf g shapes all) e a)

  same_graph : (G H : Graph) (shapes loops : List LoopShape) (all others : List Judged) → AreVerdicts elf G shapes all
      → AreVerdicts elf H loops others → G ≡ H
  same_graph G H shapes loops all others a b = parts.graph elf G H a.graph b.graph

  same_shapes : (G H : Graph) (shapes loops : List LoopShape) (all others : List Judged) → AreVerdicts elf G shapes all
      → AreVerdicts elf H loops others → shapes ≡ loops
  same_shapes G H shapes loops all others a b =
      parts.loops H shapes loops
      (subst (λ (g : Graph). AreLoops g shapes) (same_graph G H shapes loops all others a b) a.loops) b.loops

  same_verdicts : (G H : Graph) (shapes loops : List LoopShape) (all others : List Judged) → AreVerdicts elf G shapes all
      → AreVerdicts elf H loops others → all ≡ others
  same_verdicts G H shapes loops all others a b =
      let here = moved_verdicts G H shapes loops all (same_graph G H shapes loops all others a b)
      (same_shapes G H shapes loops all others a b) a in
      same_all word parts elf H b.graph loops b.loops.each all others here.judged b.judged

  same_stubs_of : (xs ys : List Stub) → AreStubsOf elf xs → AreStubsOf elf ys → xs ≡ ys
  same_stubs_of xs ys a b =
      let graph = same_graph a.graph b.graph a.shapes b.shapes a.all b.all a.verdicts b.verdicts in
      let shapes = same_shapes a.graph b.graph a.shapes b.shapes a.all b.all a.verdicts b.verdicts in
      let all = same_verdicts a.graph b.graph a.shapes b.shapes a.all b.all a.verdicts b.verdicts in
      let places = parts.choice.places b.all a.places b.places
      (subst (λ (js : List Judged). AreChosen js a.places) all a.chosen) b.chosen in
      let by_graph = subst (λ (g : Graph). AreStubs elf g a.shapes a.places 0 xs) graph a.stand in
      let by_shapes = subst (λ (ss : List LoopShape). AreStubs elf b.graph ss a.places 0 xs) shapes by_graph in
      let by_places = subst (λ (ps : List ℕ). AreStubs elf b.graph b.shapes ps 0 xs) places by_shapes in
      same_stubs word parts elf b.graph b.verdicts.graph b.shapes b.verdicts.loops.each b.places 0 xs ys by_places b.stand

pub one_division : OneWordLaw → Parts → OneDivisionLaw
one_division word parts elf entries others code second a b =
    let stubs = same_stubs_of word parts elf a.stubs b.stubs a.are b.are in
    (a.entries_are ∙ ap (entries_of 0) stubs ∙ sym b.entries_are, a.code_is ∙ ap words_of stubs ∙ sym b.code_is)

pub apart : OneWordLaw → Parts → ApartLaw
apart word parts = record {
  words = λ elf entries code a. a.are.verdicts.few;
  loops = λ elf entries code n a b. by_choice elf entries code n a b;
  room = λ elf entries code n a b. by_room elf entries code n a b;
}
  where
    by_choice : (elf : Elf) (entries : List Entry) (code : List ℕ) (n : ℕ) → IsDivision elf entries code
        → ChoosesTooMany elf n → ⊥
    by_choice elf entries code n a b =
        let all = same_verdicts word parts elf a.are.graph b.graph a.are.shapes b.shapes a.are.all b.all a.are.verdicts b.verdicts in
        parts.choice.apart b.all a.are.places n (subst (λ (js : List Judged). AreChosen js a.are.places) all a.are.chosen)
        b.many

    by_room : (elf : Elf) (entries : List Entry) (code : List ℕ) (n : ℕ) → IsDivision elf entries code
        → IsTooLong elf n → ⊥
    by_room elf entries code n a b =
        let stubs = same_stubs_of word parts elf a.stubs b.stubs a.are b.are in
        let counts : n ≡ length code = b.count ∙ ap (λ (ss : List Stub). length (words_of ss)) (sym stubs) ∙ ap length (sym a.code_is) in
        let room = a.room in let many = b.many in absurd (omega arith)

pub one_verdicts : OneWordLaw → Parts → OneVerdictsLaw
one_verdicts word parts elf g h shapes loops all others a b = same_verdicts word parts elf g h shapes loops all others a b

pub one_refusal : OneWordLaw → Parts → OneRefusalLaw
one_refusal word parts = record {
  loops = λ elf m n a b. parts.choice.counts b.all m n (moved elf m n a b) b.many;
  room = λ elf m n a b.
      a.count ∙ ap (λ (ss : List Stub). length (words_of ss)) (same_stubs_of word parts elf a.stubs b.stubs a.are b.are)
      ∙ sym b.count;
  apart = λ elf m n a b. parts.choice.apart a.all b.are.places m (chosen elf m n a b) a.many;
}
  where
    moved : (elf : Elf) (m n : ℕ) (a : ChoosesTooMany elf m) (b : ChoosesTooMany elf n) → AreTooMany b.all m
    moved elf m n a b =
        subst (λ (js : List Judged). AreTooMany js m)
        (same_verdicts word parts elf a.graph b.graph a.shapes b.shapes a.all b.all a.verdicts b.verdicts) a.many

    chosen : (elf : Elf) (m n : ℕ) (a : ChoosesTooMany elf m) (b : IsTooLong elf n) → AreChosen a.all b.are.places
    chosen elf m n a b =
        subst (λ (js : List Judged). AreChosen js b.are.places)
        (same_verdicts word parts elf b.are.graph a.graph b.are.shapes a.shapes b.are.all a.all b.are.verdicts a.verdicts)
        b.are.chosen
