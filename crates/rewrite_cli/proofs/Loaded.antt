-- What is done with files.
use Rattle.std.proofs.Common.{◌≡◌, ◌≤◌, ℕ, inl, inr, List, [], ◌∷◌, length, Option, Some, None, Bool, true, false, refl}
use Rattle.std.proofs.Common.{ap, subst}
use Rattle.std.specs.Prelude.{if◌then◌else◌}
use Rattle.rv64_decode.specs.Area.{Area}
use Rattle.guest_memory.specs.Spans.{all_bytes}
use Rattle.outside_ports.specs.Ports.{Files, PassesLimit, SavedIn, SameButIn}
use Rattle.outside_ports.specs.Fakes.{File}
use Rattle.rewrite_cli.specs.Effect.{Effect, OfFile, only}
use Rattle.rewrite_cli.specs.Runs.{dump_of}
use Rattle.rewrite_cli.specs.Needs.{SameBut, names_of}
use Rattle.rewrite_cli.specs.Answer.{AreSaved}
use Rattle.rewrite_cli.specs.Status.{is_ending}
use Rattle.rewrite_cli.specs.declared.status.Reason.TheVariants.{LoadTooLong}
use Rattle.rewrite_cli.specs.declared.status.Status.{Status}
use Rattle.rewrite_cli.specs.declared.status.Status.TheVariants.{Refused}
use Rattle.rewrite_cli.proofs.Done.{same_but_one}

-- ---- loading

pub too_long : (limit : ℕ) (Act : List ℕ → Effect
    → Type 0) (input : List ℕ) (content : Option (List ℕ)) (status : Status)
    → (status ≡ Refused (LoadTooLong limit)) × PassesLimit content limit
    → OfFile limit Act input content (only status input)
too_long limit Act input None status h = absurd h.1
too_long limit Act input (Some bytes) status h = inl (h.1, ap (λ (s : Status). only s input) h.0)

pub loaded : (limit : ℕ) (Act : List ℕ → Effect
    → Type 0) (input : List ℕ) (content : Option (List ℕ)) (bytes : List ℕ) (effect : Effect)
    → content ≡ Some bytes → length bytes ≤ limit → Act bytes effect → OfFile limit Act input content effect
loaded limit Act input content bytes effect e within act = rw e (inr (within, act))

-- ---- saving

pub saved_one : (m : Files) (files : Option Files) (name bytes : List ℕ) → SavedIn m files name bytes
    → AreSaved m files ((name, bytes) ∷ [])
saved_one m None name bytes h = absurd h
saved_one m (Some n) name bytes h = (n, (h, refl))

pub others_of_saved : (m : Files) (files : Option Files) (name bytes : List ℕ) → SavedIn m files name bytes
    → SameButIn m files name
others_of_saved m None name bytes h = h
others_of_saved m (Some n) name bytes h = h.1

abbrev first_name : List File → List ℕ
first_name [] = []
first_name (file ∷ files) = file.0

others_by : (m : Files) (files : Option Files) (name bytes wanted kept : List ℕ) (b : Bool)
    → ◌≡◌ {A = List File} ((name, bytes) ∷ []) (if b then (wanted, kept) ∷ [] else []) → SameButIn m files name
    → SameBut m files (wanted ∷ [])
others_by m files name bytes wanted kept true e h =
    let same : name ≡ wanted = ap first_name e in
    same_but_one m files wanted (subst (λ (v : List ℕ). SameButIn m files v) same h)
others_by m files name bytes wanted kept false e h = absurd (cc)

pub others_of_dump : (m : Files) (files : Option Files) (dump : Option (List ℕ)) (status : Status)
    (memory : List Area) (name bytes : List ℕ) → ◌≡◌ {A = List File} ((name, bytes) ∷ []) (dump_of dump status memory)
    → SameButIn m files name → SameBut m files (names_of dump)
others_of_dump m files None status memory name bytes e h = absurd (cc)
others_of_dump m files (Some wanted) status memory name bytes e h = others_by m files name bytes wanted
    (all_bytes memory) (is_ending status) e h
