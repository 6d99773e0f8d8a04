-- What the fakes are seen as: their content, which of their calls fail, and how far they have come.
use Rattle.std.specs.Prelude.{ℕ, ◌+◌, ◌-◌, ◌^◌, min, List, [], ◌∷◌, Some, None, if◌then◌else◌}
use Rattle.std.specs.Str.{bytes_eq}
use Rattle.outside_ports.specs.Ports.{Files}

-- the number after n, where 64 bits hold it
abbrev pub next_number : ℕ → ℕ
next_number n = min (n + 1) (2 ^ 64 - 1)

-- the bytes that are still to be read, the most of them that one call gives, the numbers of the
-- calls that fail, the number of the next call, and the count of faults
pub record SourceState : Type 0 where
  pub rest : List ℕ
  pub most : ℕ
  pub fails : List ℕ
  pub calls : ℕ
  pub faults : ℕ

-- the bytes written so far, how many more there is room for, the numbers of the calls that fail,
-- the number of the next call, and the count of faults
pub record SinkState : Type 0 where
  pub written : List ℕ
  pub room : ℕ
  pub fails : List ℕ
  pub calls : ℕ
  pub faults : ℕ

-- a name and the bytes under it
abbrev pub File : Type 0
File = List ℕ × List ℕ

-- the files by name, the numbers of the calls that fail, the number of the next call, the count of
-- faults, and that of failed saves
pub record StoreState : Type 0 where
  pub entries : List File
  pub fails : List ℕ
  pub calls : ℕ
  pub faults : ℕ
  pub failed_saves : ℕ

-- the bytes under each name: those of its first entry
abbrev pub files_of : List File → Files
files_of [] name = None
files_of (e ∷ rest) name = if bytes_eq e.0 name then Some e.1 else files_of rest name

-- the files with these bytes under the name, in place of what was there or else at the end
abbrev pub with_file : List File → List ℕ → List ℕ → List File
with_file [] name bytes = (name, bytes) ∷ []
with_file (e ∷ rest) name bytes =
    if bytes_eq e.0 name then (name, bytes) ∷ rest else e ∷ with_file rest name bytes
