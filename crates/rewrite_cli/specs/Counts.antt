-- What a report counts.
use Rattle.std.specs.Prelude.{ℕ, List, [], ◌∷◌}
use Rattle.hart_core.specs.declared.counts.LoopCount.{LoopCount}
use Rattle.rewrite_cli.specs.declared.counts.Counts.{Counts}
use Rattle.rewrite_cli.specs.declared.counts.Counts.TheVariants.{Run, Image, Sample, Nothing}

pub data Tally : Type 0 where
  -- of a run: the counts of each entry, the instructions of each hart, and all of these
  OfRun : (loops : List LoopCount) (harts : List ℕ) (steps : ℕ) → Tally
  -- what an image adds to its original
  OfImage : (entries words : ℕ) → Tally
  -- the bytes of a sample
  OfSample : (bytes : ℕ) → Tally
  OfNothing : Tally

-- what the counts of the code tell
abbrev pub tally_of : Counts → Tally
tally_of (Run counts) = OfRun counts.loops.items counts.harts.items counts.steps
tally_of (Image entries words) = OfImage entries words
tally_of (Sample bytes) = OfSample bytes
tally_of Nothing = OfNothing

-- the instructions of a run without entries by one hart
abbrev pub of_steps : ℕ → Tally
of_steps steps = OfRun [] (steps ∷ []) steps
