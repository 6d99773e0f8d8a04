use Rattle.std.proofs.Common.{◌≡◌, ◌+◌, ◌++◌, List, ℕ, length, take, refl, ap, sym, ◌∙◌}
use Rattle.guest_memory.specs.Spans.{bytes_at}
use Rattle.guest_memory.proofs.Bytes.{bytes_at-append, take-bytes_at}
use Rattle.guest_memory.proofs.memory.Memory.piece.Goals as goal

pub returns-clause-front : goal.returns-clause-front
returns-clause-front c =
    let m = c.args.self.now in
    let x = c.args.addr in
    let xs = c.piece_of.result.now in
    let bytes : xs ≡ bytes_at (length xs) m x = cc in
    λ k. bytes_at-append (length xs) k (length xs + k) m x (x + length xs) refl refl
    ∙ ap (λ (v : List ℕ). v ++ bytes_at k m (x + length xs)) (sym bytes)

pub returns-clause-part : goal.returns-clause-part
returns-clause-part c =
    let m = c.args.self.now in
    let x = c.args.addr in
    let xs = c.piece_of.result.now in
    let bytes : xs ≡ bytes_at (length xs) m x = cc in
    λ j k l. bytes_at-append j k (j + k) m x (x + j) refl refl
    ∙ ap (λ (v : List ℕ). v ++ bytes_at k m (x + j)) (sym (ap (take j) bytes ∙ take-bytes_at j (length xs) m x l))
