use Rattle.std.proofs.Common.{◌≡◌, ◌↔◌, ◌<◌, ◌^◌, ℕ, Option, Some, None, IfSome, refl, arith}
use Rattle.rv64_decode.specs.Table.{Means, decoded}
use Rattle.rv64_decode.specs.declared.instr.Instr.{Instr}
use Rattle.rv64_decode.proofs.Decodes.{means_decoded}
use Rattle.rv64_decode.proofs.writing.encode.Goals as goal

-- the only word that means the instruction is decoded as it
if_means : (r : Option ℕ) (i : Instr) → ((w : ℕ) → r ≡ Some w → w < 2 ^ 32)
    → ((w : ℕ) → w < 2 ^ 32 → (r ≡ Some w) ↔ Means w i) → IfSome r (λ w. decoded w ≡ Some i)
if_means None i fits words = tt
if_means (Some w) i fits words = means_decoded w i ((words w (fits w refl)).0 refl)

pub returns-clause-decodes : goal.returns-clause-decodes
returns-clause-decodes c = if_means _ _ (λ w e. let h = rw e at c.word_of.type_inv in omega (arith, h)) c.word_of.ensures.words
