use Rattle.rv64_decode.proofs.Fields.{decoded-in_range}
use Rattle.rv64_decode.proofs.laws.decoded_fields_are_in_range.Goals as goal

pub returns : goal.returns
returns c = decoded-in_range
