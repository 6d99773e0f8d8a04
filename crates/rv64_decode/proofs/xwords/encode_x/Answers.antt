use Rattle.std.proofs.Common.{◌≡◌, ◌↔◌, ◌<◌, ◌^◌, ℕ, Option, Some, None, IfSome, refl, arith}
use Rattle.rv64_decode.specs.XTable.{MeansX, decoded_x}
use Rattle.rv64_decode.specs.declared.xinstr.XInstr.{XInstr}
use Rattle.rv64_decode.proofs.XDecodes.{means_x_decoded}
use Rattle.rv64_decode.proofs.xwords.encode_x.Goals as goal

-- the only word that means the instruction is decoded as it
if_means : (r : Option ℕ) (i : XInstr) → ((w : ℕ) → r ≡ Some w → w < 2 ^ 32)
    → ((w : ℕ) → w < 2 ^ 32 → (r ≡ Some w) ↔ MeansX w i) → IfSome r (λ w. decoded_x w ≡ Some i)
if_means None i fits words = tt
if_means (Some w) i fits words = means_x_decoded w i ((words w (fits w refl)).0 refl)

pub returns-clause-decodes : goal.returns-clause-decodes
returns-clause-decodes c = if_means _ _ (λ w e. let h = rw e at c.x_word_of.type_inv in omega (arith, h)) c.x_word_of.ensures.words
