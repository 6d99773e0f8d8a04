-- Where added code stands: places count its words, and the word at a place has a place's address.
use Rattle.std.specs.Prelude.{ℕ, zero, suc, ◌≡◌, ◌<◌, ◌^◌, List, [], ◌∷◌, Some, pos, slice_get}
use Rattle.rv64_decode.specs.Aim.{Aimed, distance}
use Rattle.rv64_decode.specs.Hart.{address, fetched}
use Rattle.rv64_decode.specs.declared.instr.Instr.TheVariants.{Jal}
use Rattle.rv64_decode.specs.declared.xinstr.XInstr.{XInstr}
use Rattle.rv64_decode.specs.declared.xinstr.XInstr.TheVariants.{Base}

-- an instruction at place p, aimed at the place `to` where it is the open jump
abbrev pub aimed : ℕ → ℕ → XInstr → XInstr
aimed to p (Base (Jal zero (pos zero))) = Base (Jal 0 (distance to p))
aimed to p i = i

-- these instructions stand in the code from place p on, their open jumps aimed at the place `to`
abbrev pub StandsIn : List ℕ → ℕ → ℕ → List XInstr → Type 0
StandsIn code to p [] = Unit {0}
StandsIn code to p (i ∷ is) = (fetched code (address p) ≡ Some (aimed to p i)) × StandsIn code to (suc p) is

-- the place behind instructions that begin at p
abbrev pub behind : ℕ → List XInstr → ℕ
behind p [] = p
behind p (i ∷ is) = behind (suc p) is

-- at place p of the code stands this word, or where it is an open jump, which was aimed when it stood at place k, the
-- jump from there to the place `to`
pub record IsAt (code : List ℕ) (p to k word : ℕ) : Type 0 where
  pub small : word < 2 ^ 32
  pub now : ℕ
  pub here : slice_get code p ≡ Some now
  pub aim : Aimed to k word now

-- and so for the words from place p on, which were aimed when they stood from place k on
abbrev pub WordsAt : List ℕ → ℕ → ℕ → ℕ → List ℕ → Type 0
WordsAt code p to k [] = Unit {0}
WordsAt code p to k (word ∷ rest) = IsAt code p to k word × WordsAt code (suc p) to (suc k) rest
