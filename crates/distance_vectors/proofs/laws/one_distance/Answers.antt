use Rattle.distance_vectors.proofs.Orders as orders
use Rattle.distance_vectors.proofs.laws.one_distance.Goals as goal

pub returns : goal.returns
returns c = orders.one_distance
