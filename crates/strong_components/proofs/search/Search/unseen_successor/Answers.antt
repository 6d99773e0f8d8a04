use Rattle.std.proofs.Common.{inl, inr}
use Rattle.strong_components.proofs.search.Search.unseen_successor.Goals as goal

pub is_new-requires : goal.is_new-requires
is_new-requires c = λ x e. c.requires x (inl e)

pub is_new-requires-2 : goal.is_new-requires-2
is_new-requires-2 c = λ x e. c.requires x (inr e)
