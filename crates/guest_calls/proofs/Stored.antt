-- Bytes that a read has stored, in two parts.
use Rattle.std.proofs.Common.{◌≡◌, ℕ, ◌+◌, ◌≤◌, ◌++◌, List, [], length, take, drop, true, Option, Some, refl, ap, sym, subst, ◌∙◌, arith}
use Rattle.std.proofs.lemmas.List.{append-nil, append_assoc, length-append}
use Rattle.rv64_decode.specs.Area.{Area, writable_of}
use Rattle.guest_memory.specs.Spans.{all_permitted, with_bytes_at}
use Rattle.guest_calls.specs.Faults.{IsStored, ChangesInBuffer}
use Rattle.guest_calls.proofs.Spans.{permitted_fewer, take_take}
use Rattle.guest_memory.specs.Layout.{KeepAreas}
use Rattle.guest_memory.proofs.Kept.{span-keeps}

-- the memory with the bytes that were stored
pub stored_all : (m n : List Area) (addr k : ℕ) (told : Option (List ℕ)) (s : IsStored m addr k told n) → n ≡ with_bytes_at m addr s.bytes
stored_all m n addr k told s = s.are [] ∙ ap (λ (xs : List ℕ). with_bytes_at m addr xs) (append-nil s.bytes)

-- the memory with the first bytes that were told
pub stored_told : (m n : List Area) (addr k : ℕ) (told : Option (List ℕ)) (xs : List ℕ) → IsStored m addr k told n → told ≡ Some xs → n ≡ with_bytes_at m addr (take k xs)
stored_told m n addr k told xs s h =
    stored_all m n addr k told s ∙ ap (λ (ys : List ℕ). with_bytes_at m addr ys) (s.first xs h)

-- a part of a buffer that may be written
pub stored_part : (m n : List Area) (addr k len : ℕ) (told : Option (List ℕ)) → IsStored m addr k told n → k ≤ len → all_permitted writable_of len m addr ≡ true → ChangesInBuffer m addr len n
stored_part m n addr k len told s l w = let c = s.count in
    record { bytes = s.bytes; within = omega arith; writable = w; are = stored_all m n addr k told s }

-- nothing is stored yet
pub stored_none : (m : List Area) (addr : ℕ) (told : Option (List ℕ)) → IsStored m addr 0 told m
stored_none m addr told = record {
  bytes = [];
  count = refl;
  are = λ more. let e : addr + 0 ≡ addr = omega arith in rw e refl;
  first = λ xs h. refl;
}

-- some bytes, and then some of what is left
pub stored_more : (m n o : List Area) (addr j k : ℕ) (told left : Option (List ℕ)) → IsStored m addr j told n
    → ((xs : List ℕ) → told ≡ Some xs → left ≡ Some (drop j xs)) → IsStored n (addr + j) k left o
    → IsStored m addr (j + k) told o
stored_more m n o addr j k told left a h b =
    let place : addr + (j + k) ≡ addr + j + k = omega arith in
    let ca = a.count in
    let cb = b.count in
    let l = length-append a.bytes b.bytes in
    record {
      bytes = a.bytes ++ b.bytes;
      count = omega arith;
      are = λ more.
          rw place (b.are more ∙ a.are (b.bytes ++ more)
          ∙ ap (λ (xs : List ℕ). with_bytes_at m addr xs) (sym (append_assoc a.bytes b.bytes more)));
      first = λ xs e.
          let front = a.first xs e in
          let back = b.first (drop j xs) (h xs e) in
          ap (λ (v : List ℕ). v ++ b.bytes) front ∙ ap (λ (v : List ℕ). take j xs ++ v) back ∙ both_parts j k xs;
    }
  where
    both_parts : (j k : ℕ) (xs : List ℕ) → take j xs ++ take k (drop j xs) ≡ take (j + k) xs
    both_parts j k xs =
        ap (λ (v : List ℕ). take j xs ++ v) (sym (append-nil (take k (drop j xs))))
        ∙ take_take j k xs []
        ∙ append-nil (take (j + k) xs)

-- the areas stay
pub stored_areas : (m n : List Area) (addr k len : ℕ) (told : Option (List ℕ)) → IsStored m addr k told n → k ≤ len → all_permitted writable_of len m addr ≡ true → KeepAreas m n
stored_areas m n addr k len told s l w =
    let c = s.count in
    let P : List Area → Type 0 = λ v. KeepAreas m v in
    subst P (sym (stored_all m n addr k told s))
    (span-keeps m addr s.bytes (permitted_fewer writable_of (length s.bytes) len m addr w (omega arith)))
