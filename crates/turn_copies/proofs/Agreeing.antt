-- Memories with the same areas that agree on some bytes.
use Rattle.std.proofs.Common.{◌≡◌, ℕ, zero, suc, ◌+◌, ◌*◌, ◌/◌, ◌%◌, ◌<◌, ◌≤◌, refl, sym, subst, ap, ◌∙◌, arith, Option, Some, None, Bool, true, false, cond, List, [], ◌∷◌, ◌++◌, length, ◌⊎◌, inl, inr}
use Rattle.std.specs.Prelude.{◌==◌, ◌&&◌, nat_lt, nat_le}
use Rattle.std.proofs.lemmas.Bool.{cases_lt}
use Rattle.rv64_decode.specs.Area.{Area, holds, area_at, byte_at, number_at, with_byte, with_number, why, why_in, after_store, bytes_of, or_refusal, unless_refused, readable_of, writable_of}
use Rattle.rv64_decode.specs.Ask.{Ask, Nothing, Loads, Stores, answer, after, without_number}
use Rattle.rv64_decode.specs.declared.memory.Width.{Width}
use Rattle.rv64_decode.specs.declared.memory.MemFault.{MemFault}
use Rattle.rv64_decode.specs.declared.memory.MemFault.TheVariants.{Misaligned, Denied}
use Rattle.loop_data.proofs.CellBytes.{maps}
use Rattle.loop_data.proofs.Tests.{eq_of, ne_of}
use Rattle.turn_copies.specs.Memories.{SameAreas, Agree, replayed}
use Rattle.turn_copies.proofs.Bytes.{areas_refl, areas_sym, areas_trans, with_byte-areas, with_number-areas, with_byte-same, with_byte-other, byte_at-with_number}

same_holds : (a b : Area) (addr : ℕ) → a.low ≡ b.low → length a.bytes ≡ length b.bytes → holds a addr ≡ holds b addr
same_holds a b addr l s = ap (λ x. nat_le x addr && nat_lt addr (x + length a.bytes)) l ∙ ap (λ n. nat_le b.low addr && nat_lt addr (b.low + n)) s

pub maps_same : (m n : List Area) (x : ℕ) → SameAreas m n → maps m x ≡ maps n x
maps_same [] [] x h = refl
maps_same [] (b ∷ bs) x h = absurd h
maps_same (a ∷ rest) [] x h = absurd h
maps_same (a ∷ rest) (b ∷ bs) x h = ap (λ t. cond t true (maps rest x)) (same_holds a b x h.0 h.4) ∙ ap (λ t. cond (holds b x) true t) (maps_same rest bs x h.5)

why_cond : (permission : Area → Bool) (t : Bool) (a b : Area) (x y : Option Area) → permission a ≡ permission b → why_in permission x ≡ why_in permission y → why_in permission (cond t (Some a) x) ≡ why_in permission (cond t (Some b) y)
why_cond permission true a b x y p q = ap (λ c. cond c None (Some Denied)) p
why_cond permission false a b x y p q = q

why_readable : (m n : List Area) (addr : ℕ) → SameAreas m n → why_in readable_of (area_at m addr) ≡ why_in readable_of (area_at n addr)
why_readable [] [] addr h = refl
why_readable [] (b ∷ bs) addr h = absurd h
why_readable (a ∷ rest) [] addr h = absurd h
why_readable (a ∷ rest) (b ∷ bs) addr h =
    why_cond readable_of (holds a addr) a b (area_at rest addr) (area_at bs addr) h.1 (why_readable rest bs addr h.5)
    ∙ ap (λ t. why_in readable_of (cond t (Some b) (area_at bs addr))) (same_holds a b addr h.0 h.4)

why_writable : (m n : List Area) (addr : ℕ) → SameAreas m n → why_in writable_of (area_at m addr) ≡ why_in writable_of (area_at n addr)
why_writable [] [] addr h = refl
why_writable [] (b ∷ bs) addr h = absurd h
why_writable (a ∷ rest) [] addr h = absurd h
why_writable (a ∷ rest) (b ∷ bs) addr h =
    why_cond writable_of (holds a addr) a b (area_at rest addr) (area_at bs addr) h.2 (why_writable rest bs addr h.5)
    ∙ ap (λ t. why_in writable_of (cond t (Some b) (area_at bs addr))) (same_holds a b addr h.0 h.4)

aligned_why : (t : Bool) (x y : Option MemFault) → x ≡ y → cond t x (Some Misaligned) ≡ cond t y (Some Misaligned)
aligned_why true x y e = e
aligned_why false x y e = refl

pub readable_same : (m n : List Area) (addr : ℕ) (w : Width) → SameAreas m n → why readable_of m addr w ≡ why readable_of n addr w
readable_same m n addr w h = aligned_why (addr % bytes_of w == 0) _ _ (why_readable m n addr h)

pub writable_same : (m n : List Area) (addr : ℕ) (w : Width) → SameAreas m n → why writable_of m addr w ≡ why writable_of n addr w
writable_same m n addr w h = aligned_why (addr % bytes_of w == 0) _ _ (why_writable m n addr h)

-- a store leaves the areas as they are
unless_areas : (o : Option MemFault) (m n : List Area) → SameAreas m n → SameAreas m (unless_refused o m n)
unless_areas None m n h = h
unless_areas (Some f) m n h = areas_refl m

pub after_areas : (m : List Area) (ask : Ask) → SameAreas m (after m ask)
after_areas m Nothing = areas_refl m
after_areas m (Loads addr width) = areas_refl m
after_areas m (Stores addr width value) = unless_areas (why writable_of m addr width) m _ (with_number-areas (bytes_of width) m addr value)

-- all bytes of a range are among these
abbrev pub AllAt : (ℕ → Type 0) → ℕ → ℕ → Type 0
AllAt at addr n = (z : ℕ) → addr ≤ z → z < addr + n → at z

-- and none is
abbrev pub NoneAt : (ℕ → Type 0) → ℕ → ℕ → Type 0
NoneAt at addr n = (z : ℕ) → addr ≤ z → z < addr + n → at z → ⊥

pub agree_number : (at : ℕ → Type 0) (n : ℕ) (m m' : List Area) (addr : ℕ) → Agree at m m' → AllAt at addr n → number_at n m addr ≡ number_at n m' addr
agree_number at zero m m' addr h k = refl
agree_number at (suc n) m m' addr h k =
    ap (λ x. x + 256 * number_at n m (suc addr)) (h.bytes addr (k addr (omega arith) (omega arith)))
    ∙ ap (λ x. byte_at m' addr + 256 * x) (agree_number at n m m' (suc addr) h (λ z lo hi. k z (omega arith) (omega arith)))

-- the bytes that are loaded are among these
abbrev pub LoadsAt : (ℕ → Type 0) → Ask → Type 0
LoadsAt at Nothing = Unit {0}
LoadsAt at (Loads addr width) = AllAt at addr (bytes_of width)
LoadsAt at (Stores addr width value) = Unit {0}

pub agree_answer : (at : ℕ → Type 0) (m m' : List Area) (ask : Ask) → Agree at m m' → LoadsAt at ask → answer m ask ≡ answer m' ask
agree_answer at m m' Nothing h k = refl
agree_answer at m m' (Loads addr width) h k =
    ap (λ y. or_refusal y (number_at (bytes_of width) m addr)) (readable_same m m' addr width h.areas)
    ∙ ap (or_refusal (why readable_of m' addr width)) (agree_number at (bytes_of width) m m' addr h k)
agree_answer at m m' (Stores addr width value) h k = ap (λ y. without_number (or_refusal y tt)) (writable_same m m' addr width h.areas)

unmapped_step : (a : Area) (rest : List Area) (x b : ℕ) (t : Bool) → holds a x ≡ t → cond t true (maps rest x) ≡ false → (maps rest x ≡ false → with_byte rest x b ≡ rest) → with_byte (a ∷ rest) x b ≡ a ∷ rest
unmapped_step a rest x b true e h later = absurd (cc)
unmapped_step a rest x b false e h later = rw e (ap (λ r. a ∷ r) (later h))

not_mapped : (m : List Area) (x b : ℕ) → maps m x ≡ false → with_byte m x b ≡ m
not_mapped [] x b h = refl
not_mapped (a ∷ rest) x b h = unmapped_step a rest x b (holds a x) refl h (λ k. not_mapped rest x b k)

one_byte : (m m' : List Area) (x b y : ℕ) (t u : Bool) → (y == x) ≡ t → maps m x ≡ u → maps m' x ≡ u → byte_at m y ≡ byte_at m' y → byte_at (with_byte m x b) y ≡ byte_at (with_byte m' x b) y
one_byte m m' x b y true true e f g h =
    let i = eq_of y x e in
    ap (byte_at (with_byte m x b)) i ∙ with_byte-same m x b f ∙ sym (with_byte-same m' x b g) ∙ sym (ap (byte_at (with_byte m' x b)) i)
one_byte m m' x b y true false e f g h = rw (not_mapped m x b f, not_mapped m' x b g) h
one_byte m m' x b y false u e f g h = with_byte-other m x y b (ne_of y x e) ∙ h ∙ sym (with_byte-other m' x y b (ne_of y x e))

agree_with_byte : (at : ℕ → Type 0) (m m' : List Area) (x b : ℕ) → Agree at m m' → Agree at (with_byte m x b) (with_byte m' x b)
agree_with_byte at m m' x b h = record {
  areas = areas_trans (with_byte m x b) m (with_byte m' x b) (areas_sym m (with_byte m x b) (with_byte-areas m x b)) (areas_trans m m' (with_byte m' x b) h.areas (with_byte-areas m' x b));
  bytes = λ y k. one_byte m m' x b y (y == x) (maps m x) refl refl (sym (maps_same m m' x h.areas)) (h.bytes y k);
}

agree_with_number : (at : ℕ → Type 0) (n : ℕ) (m m' : List Area) (x v : ℕ) → Agree at m m' → Agree at (with_number n m x v) (with_number n m' x v)
agree_with_number at zero m m' x v h = h
agree_with_number at (suc n) m m' x v h = agree_with_number at n (with_byte m x (v % 256)) (with_byte m' x (v % 256)) (suc x) (v / 256) (agree_with_byte at m m' x (v % 256) h)

agree_unless : (at : ℕ → Type 0) (o : Option MemFault) (m n m' n' : List Area) → Agree at m m' → Agree at n n' → Agree at (unless_refused o m n) (unless_refused o m' n')
agree_unless at None m n m' n' p q = q
agree_unless at (Some fault) m n m' n' p q = p

-- the same ask of both leaves them so
pub agree_after : (at : ℕ → Type 0) (m m' : List Area) (ask : Ask) → Agree at m m' → Agree at (after m ask) (after m' ask)
agree_after at m m' Nothing h = h
agree_after at m m' (Loads addr width) h = h
agree_after at m m' (Stores addr width value) h =
    subst (λ x. Agree at (after_store m addr width value) (unless_refused x m' (with_number (bytes_of width) m' addr value))) (writable_same m m' addr width h.areas)
    (agree_unless at (why writable_of m addr width) m (with_number (bytes_of width) m addr value) m' (with_number (bytes_of width) m' addr value) h (agree_with_number at (bytes_of width) m m' addr value h))

outside_range : (at : ℕ → Type 0) (n x y : ℕ) → NoneAt at x n → at y → (y < x) ⊎ (x + n ≤ y)
outside_range at n x y hidden k = by_low (cases_lt y x)
  where
    by_high : x ≤ y → (y < x + n) ⊎ (x + n ≤ y) → (y < x) ⊎ (x + n ≤ y)
    by_high low (inl h) = absurd (hidden y low h k)
    by_high low (inr h) = inr h

    by_low : (y < x) ⊎ (x ≤ y) → (y < x) ⊎ (x + n ≤ y)
    by_low (inl h) = inl h
    by_low (inr h) = by_high h (cases_lt y (x + n))

hidden_unless : (at : ℕ → Type 0) (o : Option MemFault) (m m' : List Area) (n x v : ℕ) → NoneAt at x n → Agree at m m' → Agree at (unless_refused o m (with_number n m x v)) m'
hidden_unless at None m m' n x v hidden h = record {
  areas = areas_trans (with_number n m x v) m m' (areas_sym m (with_number n m x v) (with_number-areas n m x v)) h.areas;
  bytes = λ y k. byte_at-with_number n m x v y (outside_range at n x y hidden k) ∙ h.bytes y k;
}
hidden_unless at (Some f) m m' n x v hidden h = h

-- a store to bytes that do not matter, in one of the two alone
pub agree_hidden : (at : ℕ → Type 0) (m m' : List Area) (x v : ℕ) (w : Width) → NoneAt at x (bytes_of w) → Agree at m m' → Agree at (after m (Stores x w v)) m'
agree_hidden at m m' x v w hidden h = hidden_unless at (why writable_of m x w) m m' (bytes_of w) x v hidden h

pub agree_weaker : (at at' : ℕ → Type 0) (m m' : List Area) → ((x : ℕ) → at' x → at x) → Agree at m m' → Agree at' m m'
agree_weaker at at' m m' f h = record { areas = h.areas; bytes = λ x k. h.bytes x (f x k) }

pub agree_refl : (at : ℕ → Type 0) (m : List Area) → Agree at m m
agree_refl at m = record { areas = areas_refl m; bytes = λ x k. refl }

pub agree_trans : (at : ℕ → Type 0) (m n o : List Area) → Agree at m n → Agree at n o → Agree at m o
agree_trans at m n o h k = record { areas = areas_trans m n o h.areas k.areas; bytes = λ x p. h.bytes x p ∙ k.bytes x p }

pub agree_sym : (at : ℕ → Type 0) (m n : List Area) → Agree at m n → Agree at n m
agree_sym at m n h = record { areas = areas_sym m n h.areas; bytes = λ x p. sym (h.bytes x p) }

-- ---- memories after several accesses

pub replayed-append : (m : List Area) (xs ys : List Ask) → replayed m (xs ++ ys) ≡ replayed (replayed m xs) ys
replayed-append m [] ys = refl
replayed-append m (x ∷ xs) ys = replayed-append (after m x) xs ys

-- bytes that do not matter, set in one of the two alone
pub agree_written : (at : ℕ → Type 0) (m : List Area) (n x v : ℕ) → NoneAt at x n → Agree at (with_number n m x v) m
agree_written at m n x v hidden = hidden_unless at None m m n x v hidden (agree_refl at m)
