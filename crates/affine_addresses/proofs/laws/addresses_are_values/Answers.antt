use Rattle.affine_addresses.proofs.Values.{address_law}
use Rattle.affine_addresses.proofs.laws.addresses_are_values.Goals as goal

pub returns : goal.returns
returns c = address_law
