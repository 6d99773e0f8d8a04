use Rattle.std.proofs.Common.{◌≡◌, ◌+◌, ◌-◌, ◌++◌, ℕ, length, refl, ap, ◌∙◌, arith}
use Rattle.elf_image.specs.Layout.{rounded_low, rounded_end}
use Rattle.guest_memory.specs.Areas.{zeros}
use Rattle.guest_memory.specs.Layout.{end_of, spliced}
use Rattle.guest_memory.proofs.Loaded.{length-zeros, spliced-zeros}
use Rattle.guest_memory.proofs.start.load_area.Goals as goal

pub new-area-requires : goal.new-area-requires
new-area-requires c =
    let s = c.args.segment.now in
    let size : length c.in_ok-bytes.bytes.items ≡ c.end_of.result - c.low_of-low.result = ap length c.in_ok-bytes.ensures ∙ length-zeros (c.end_of.result - c.low_of-low.result) in
    let end = c.requires.end in
    let low = c.low_of-low.ensures in
    let high = c.end_of.ensures in
    omega arith

pub set_bytes-requires-clause-to : goal.set_bytes-requires-clause-to
set_bytes-requires-clause-to c =
    let s = c.args.segment.now in
    let size : length c.in_ok-bytes.bytes.items ≡ c.end_of.result - c.low_of-low.result = ap length c.in_ok-bytes.ensures ∙ length-zeros (c.end_of.result - c.low_of-low.result) in
    let area : end_of c.new-area.result ≡ c.low_of-low.result + length c.in_ok-bytes.bytes.items = ap end_of c.new-area.ensures in
    let file : length c.as_slice.result.now ≡ length s.bytes = ap length c.as_slice.ensures in
    let bytes = c.requires.bytes in
    let end = c.requires.end in
    let low = c.low_of-low.ensures in
    let high = c.end_of.ensures in
    omega arith

pub returns : goal.returns
returns c =
    let s = c.args.segment.now in
    let front : ℕ = s.vaddr - rounded_low s in
    let n : ℕ = rounded_end s - rounded_low s in
    let low = c.low_of-low.ensures in
    let high = c.end_of.ensures in
    let bytes = c.requires.bytes in
    let zero : c.in_ok-bytes.bytes.items ≡ zeros n = c.in_ok-bytes.ensures ∙ ap zeros (ap (λ (v : ℕ). v - c.low_of-low.result) high ∙ ap (λ (v : ℕ). rounded_end s - v) low) in
    let put = spliced-zeros front n s.bytes (omega arith) in
    let behind : n - (front + length s.bytes) ≡ rounded_end s - (s.vaddr + length s.bytes) = omega arith in
    let all : spliced front s.bytes (zeros n) ≡ zeros front ++ (s.bytes ++ zeros (rounded_end s - (s.vaddr + length s.bytes))) = put ∙ ap (λ (v : ℕ). zeros front ++ (s.bytes ++ zeros v)) behind in
    rw (c.set_bytes.ensures, c.new-area.ensures, c.as_slice.ensures, low, zero, all) refl
