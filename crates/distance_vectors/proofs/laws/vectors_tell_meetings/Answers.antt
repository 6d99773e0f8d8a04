use Rattle.distance_vectors.proofs.Meetings.{meeting_law}
use Rattle.distance_vectors.proofs.laws.vectors_tell_meetings.Goals as goal

pub returns : goal.returns
returns c = meeting_law
