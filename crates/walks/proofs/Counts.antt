-- Counts of entries, as they are shown.
use Rattle.std.proofs.Common.{◌≡◌, ℕ, zero, suc, ◌+◌, List, [], ◌∷◌, map, Option, Some, None, refl, ap, sym, ◌∙◌, arith}
use Rattle.std.specs.Prelude.{slice_get}
use Rattle.alias_checks.specs.declared.lists.Turns.{Turns}
use Rattle.divided_loops.specs.Forks.{forks_of}
use Rattle.image_writer.specs.declared.image.Entry.{Entry}
use Rattle.hart_core.specs.declared.counts.LoopCount.{LoopCount}
use Rattle.hart_core.specs.Machine.{capped}
use Rattle.hart_core.specs.Entering.{headers_of, with_count, changed_count, one_arrival}
use Rattle.hart_core.specs.Rows.{one_division}
use Rattle.hart_core.specs.Start.{no_count}
use Rattle.added_runs.specs.Laws.{with_divisions}
use Rattle.walks.specs.Walk.{with_one_arrival, with_turns}
use Rattle.walks.specs.Laws.{shown}

-- the first count stays where a later one changes
later_changes : (c : LoopCount) (cs : List LoopCount) (i : ℕ) (f : LoopCount → LoopCount)
    → changed_count (c ∷ cs) (suc i) f ≡ c ∷ changed_count cs i f
later_changes c cs i f = by (slice_get cs i)
  where
    by : (o : Option LoopCount) → with_count (c ∷ cs) (suc i) f o ≡ c ∷ with_count cs i f o
    by None = refl
    by (Some d) = refl

shown_changes : (f g : LoopCount → LoopCount) → ((c : LoopCount) → shown (f c) ≡ g (shown c)) → (cs : List LoopCount) (i : ℕ)
    → map shown (changed_count cs i f) ≡ changed_count (map shown cs) i g
shown_changes f g e [] i = refl
shown_changes f g e (c ∷ cs) zero = ap (λ (d : LoopCount). d ∷ map shown cs) (e c)
shown_changes f g e (c ∷ cs) (suc i) =
    ap (map shown) (later_changes c cs i f)
    ∙ ap (λ (ds : List LoopCount). shown c ∷ ds) (shown_changes f g e cs i)
    ∙ sym (later_changes (shown c) (map shown cs) i g)

-- two changes of a count are one
changes_both : (f g : LoopCount → LoopCount) (cs : List LoopCount) (i : ℕ)
    → changed_count (changed_count cs i f) i g ≡ changed_count cs i (λ c. g (f c))
changes_both f g [] i = refl
changes_both f g (c ∷ cs) zero = refl
changes_both f g (c ∷ cs) (suc i) =
    ap (λ (ds : List LoopCount). changed_count ds (suc i) g) (later_changes c cs i f)
    ∙ later_changes c (changed_count cs i f) i g
    ∙ ap (λ (ds : List LoopCount). c ∷ ds) (changes_both f g cs i)
    ∙ sym (later_changes c cs i (λ d. g (f d)))

-- no change is of a header
header_stays : (f : LoopCount → LoopCount) → ((c : LoopCount) → (f c).header ≡ c.header) → (cs : List LoopCount) (i : ℕ)
    → map (λ (c : LoopCount). c.header) (changed_count cs i f) ≡ map (λ (c : LoopCount). c.header) cs
header_stays f e [] i = refl
header_stays f e (c ∷ cs) zero = ap (λ n. n ∷ map (λ (d : LoopCount). d.header) cs) (e c)
header_stays f e (c ∷ cs) (suc i) =
    ap (map (λ (d : LoopCount). d.header)) (later_changes c cs i f) ∙ ap (λ ns. c.header ∷ ns) (header_stays f e cs i)

pub headers_stay : (o : Option Turns) (cs : List LoopCount) (i : ℕ)
    → map (λ (c : LoopCount). c.header) (changed_count cs i (λ c. with_turns o (with_one_arrival c))) ≡ map (λ (c : LoopCount). c.header) cs
headers_stay None cs i = header_stays (λ c. with_turns None (with_one_arrival c)) (λ c. refl) cs i
headers_stay (Some t) cs i = header_stays (λ c. with_turns (Some t) (with_one_arrival c)) (λ c. refl) cs i

pub headers_start : (entries : List Entry) → map (λ (c : LoopCount). c.header) (map no_count entries) ≡ headers_of entries
headers_start [] = refl
headers_start (e ∷ entries) = ap (λ ns. e.header ∷ ns) (headers_start entries)

pub capped_by : (a n : ℕ) → capped (a + n) ≡ capped (capped a + n)
capped_by a n = omega arith

pub capped_next : (a : ℕ) → capped (suc a) ≡ capped (capped a + 1)
capped_next a = omega arith

abbrev count_by : ℕ → ℕ → ℕ → ℕ → LoopCount
count_by header arrivals divided turns = record { header = header; arrivals = arrivals; divided = divided; turns = turns }

shown_arrival : (c : LoopCount) → shown (with_one_arrival c) ≡ one_arrival (shown c)
shown_arrival c = ap (λ n. count_by c.header n (capped c.divided) (capped c.turns)) (capped_next c.arrivals)

shown_division : (t : Turns) (c : LoopCount) → shown (with_turns (Some t) c) ≡ one_division t.root (shown c)
shown_division t c =
    ap (λ n. count_by c.header (capped c.arrivals) n (capped (c.turns + t.root))) (capped_next c.divided)
    ∙ ap (λ n. count_by c.header (capped c.arrivals) (capped (capped c.divided + 1)) n) (capped_by c.turns t.root)

-- an arrival, and then the divisions of its forks
pub shown_stub : (o : Option Turns) (cs : List LoopCount) (i : ℕ)
    → with_divisions i (changed_count (map shown cs) i one_arrival) (forks_of o)
    ≡ map shown (changed_count cs i (λ c. with_turns o (with_one_arrival c)))
shown_stub None cs i = sym (shown_changes (λ c. with_turns None (with_one_arrival c)) one_arrival shown_arrival cs i)
shown_stub (Some t) cs i =
    changes_both one_arrival (one_division t.root) (map shown cs) i
    ∙ sym (shown_changes (λ c. with_turns (Some t) (with_one_arrival c)) (λ c. one_division t.root (one_arrival c))
    (λ c. shown_division t (with_one_arrival c) ∙ ap (one_division t.root) (shown_arrival c)) cs i)

-- nothing is counted at the start
pub shown_start : (entries : List Entry) → map shown (map no_count entries) ≡ map no_count entries
shown_start [] = refl
shown_start (e ∷ entries) = ap (λ (ds : List LoopCount). no_count e ∷ ds) (shown_start entries)
