-- Files in a list: where one is found, and what a write to it makes.
use Rattle.std.proofs.Common.{◌≡◌, ◌≢◌, ℕ, suc, zero, ◌<◌, ◌≤◌, Bool, true, false, List, [], ◌∷◌, ◌++◌, Some, None, length, get_or, set, refl, sym, ap, ◌∙◌, arith, position, cond, nat_lt}
use Rattle.std.specs.Str.{bytes_eq}
use Rattle.std.proofs.lemmas.Slice.Eq.{bytes_eq-Decides}
use Rattle.std.specs.List.{position_or_len}
use Rattle.std.proofs.lemmas.Bool.Decides.{nat_tests}
use Rattle.std.proofs.lemmas.List.Quantifiers.{position-Some}
use Rattle.std.proofs.lemmas.List.Sums.{fails_before_first}
use Rattle.outside_ports.specs.Ports.{SavedIn}
use Rattle.outside_ports.specs.Fakes.{File, files_of, with_file}

-- place i has the name, and no place before it
pub record IsFirst (xs : List File) (name : List ℕ) (i : ℕ) (d : File) : Type 0 where
  pub within : i < length xs
  pub here : bytes_eq (get_or xs i d).0 name ≡ true
  pub before : (k : ℕ) → k < i → bytes_eq (get_or xs k d).0 name ≡ false

-- a test of equal names, as an equation
pub named : (xs ys : List ℕ) → bytes_eq xs ys ≡ true → xs ≡ ys
named xs ys h = (bytes_eq-Decides xs ys).0 h

pub same_name : (xs : List ℕ) → bytes_eq xs xs ≡ true
same_name xs = (bytes_eq-Decides xs xs).1 refl

other_name_at : (b : Bool) (xs ys : List ℕ) → bytes_eq xs ys ≡ b → ys ≢ xs → b ≡ false
other_name_at true xs ys h ne = absurd (ne (sym (named xs ys h)))
other_name_at false xs ys h ne = refl

pub other_name : (xs ys : List ℕ) → ys ≢ xs → bytes_eq xs ys ≡ false
other_name xs ys ne = other_name_at (bytes_eq xs ys) xs ys refl ne

pub files_of-first : (xs : List File) (name : List ℕ) (i : ℕ) (d : File) → IsFirst xs name i d → files_of xs name ≡ Some (get_or xs i d).1
files_of-first [] name i d h = absurd (omega (arith, h.within))
files_of-first (x ∷ xs) name zero d h = rw h.here
files_of-first (x ∷ xs) name (suc i) d h =
    rw (h.before 0 (omega arith))
    (files_of-first xs name i d (record { within = omega (arith, h.within); here = h.here; before = λ k l. h.before (suc k) (omega arith) }))

pub with_file-first : (xs : List File) (name bytes : List ℕ) (i : ℕ) (d : File) → IsFirst xs name i d → with_file xs name bytes ≡ set xs i (name, bytes)
with_file-first [] name bytes i d h = absurd (omega (arith, h.within))
with_file-first (x ∷ xs) name bytes zero d h = rw h.here
with_file-first (x ∷ xs) name bytes (suc i) d h =
    rw (h.before 0 (omega arith))
    (ap (λ (t : List File). x ∷ t) (with_file-first xs name bytes i d (record { within = omega (arith, h.within); here = h.here; before = λ k l. h.before (suc k) (omega arith) })))

-- no place has the name
abbrev pub LacksName : List File → List ℕ → File → Type 0
LacksName xs name d = (k : ℕ) → k < length xs → bytes_eq (get_or xs k d).0 name ≡ false

pub files_of-none : (xs : List File) (name : List ℕ) (d : File) → LacksName xs name d → files_of xs name ≡ None
files_of-none [] name d h = refl
files_of-none (x ∷ xs) name d h = rw (h 0 (omega arith)) (files_of-none xs name d (λ k l. h (suc k) (omega arith)))

pub with_file-none : (xs : List File) (name bytes : List ℕ) (d : File) → LacksName xs name d → with_file xs name bytes ≡ xs ++ (name, bytes) ∷ []
with_file-none [] name bytes d h = refl
with_file-none (x ∷ xs) name bytes d h =
    rw (h 0 (omega arith)) (ap (λ (t : List File). x ∷ t) (with_file-none xs name bytes d (λ k l. h (suc k) (omega arith))))

-- the name that was written has these bytes
written_step : (b : Bool) (x : File) (xs : List File) (name bytes : List ℕ) → bytes_eq x.0 name ≡ b → files_of (with_file xs name bytes) name ≡ Some bytes → files_of (with_file (x ∷ xs) name bytes) name ≡ Some bytes
written_step true x xs name bytes h rest = rw (h, same_name)
written_step false x xs name bytes h rest = rw (h, h) rest

files_of-with_file : (xs : List File) (name bytes : List ℕ) → files_of (with_file xs name bytes) name ≡ Some bytes
files_of-with_file [] name bytes = rw same_name
files_of-with_file (x ∷ xs) name bytes =
    written_step (bytes_eq x.0 name) x xs name bytes refl (files_of-with_file xs name bytes)

-- all other names are as before
other_step : (b : Bool) (x : File) (xs : List File) (name bytes other : List ℕ) → other ≢ name → bytes_eq x.0 name ≡ b → files_of (with_file xs name bytes) other ≡ files_of xs other → files_of (with_file (x ∷ xs) name bytes) other ≡ files_of (x ∷ xs) other
other_step true x xs name bytes other ne h rest =
    let differ : bytes_eq x.0 other ≡ false = other_name x.0 other (λ e. ne (e ∙ named x.0 name h))
    in rw (h, other_name name other ne, differ)
other_step false x xs name bytes other ne h rest = rw (h, rest)

files_of-with_file_other : (xs : List File) (name bytes other : List ℕ) → other ≢ name → files_of (with_file xs name bytes) other ≡ files_of xs other
files_of-with_file_other [] name bytes other ne = rw (other_name name other ne)
files_of-with_file_other (x ∷ xs) name bytes other ne =
    other_step (bytes_eq x.0 name) x xs name bytes other ne refl (files_of-with_file_other xs name bytes other ne)

-- a write sets the name and leaves all others
pub saved : (xs : List File) (name bytes : List ℕ) → SavedIn (files_of xs) (Some (files_of (with_file xs name bytes))) name bytes
saved xs name bytes = (files_of-with_file xs name bytes, λ other ne. files_of-with_file_other xs name bytes other ne)

-- the place that a search by name gives
first_at : (xs : List File) (name : List ℕ) (i : ℕ) (d : File) → position (λ e. bytes_eq e.0 name) xs ≡ Some i → IsFirst xs name i d
first_at xs name i d h =
    let found = position-Some (λ (e : File). bytes_eq e.0 name) xs i d h
    in record { within = found.0; here = found.1; before = found.2 }

no_index : (n m : ℕ) → cond (nat_lt n m) (Some n) None ≡ None → m ≤ n
no_index n m h = grind (arith, nat_tests)

lacks : (xs : List File) (name : List ℕ) (d : File) → position (λ e. bytes_eq e.0 name) xs ≡ None → LacksName xs name d
lacks xs name d h k l =
    let p : File → Bool = λ e. bytes_eq e.0 name
    in let past : length xs ≤ position_or_len p xs = no_index (position_or_len p xs) (length xs) h
    in fails_before_first p xs k d (omega arith)

no_file : File
no_file = ([], [])

pub files_of-place : (xs : List File) (name : List ℕ) (i : ℕ) (d : File) → position (λ e. bytes_eq e.0 name) xs ≡ Some i → d ≡ get_or xs i d → files_of xs name ≡ Some d.1
files_of-place xs name i d h e = files_of-first xs name i d (first_at xs name i d h) ∙ ap (λ (f : File). Some f.1) (sym e)

pub files_of-no_place : (xs : List File) (name : List ℕ) → position (λ e. bytes_eq e.0 name) xs ≡ None → files_of xs name ≡ None
files_of-no_place xs name h = files_of-none xs name no_file (lacks xs name no_file h)

pub with_file-place : (xs : List File) (name bytes : List ℕ) (i : ℕ) (d : File) → position (λ e. bytes_eq e.0 name) xs ≡ Some i → d ≡ get_or xs i d → set xs i (d.0, bytes) ≡ with_file xs name bytes
with_file-place xs name bytes i d h e =
    let first : IsFirst xs name i d = first_at xs name i d h
    in let same : d.0 ≡ name = ap (λ (f : File). f.0) e ∙ named (get_or xs i d).0 name first.here
    in rw same (sym (with_file-first xs name bytes i d first))

pub with_file-no_place : (xs : List File) (name bytes : List ℕ) → position (λ e. bytes_eq e.0 name) xs ≡ None → xs ++ (name, bytes) ∷ [] ≡ with_file xs name bytes
with_file-no_place xs name bytes h = sym (with_file-none xs name bytes no_file (lacks xs name no_file h))
