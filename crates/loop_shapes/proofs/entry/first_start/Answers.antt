use Rattle.std.proofs.Common.{ℕ, ◌↔◌, List, refl, below_more}
use Rattle.std.specs.List.{Contains}
use Rattle.std.proofs.lemmas.Bool.{false≢true}
use Rattle.loop_data.specs.declared.graph.Graph.{Graph}
use Rattle.loop_shapes.specs.Entry.{IsStartWord, IsStartAmong}
use Rattle.loop_shapes.specs.Net.{graph_of}
use Rattle.loop_data.specs.Sets.{IsListOf}
use Rattle.std.specs.List.Sorted.{IsStrictlyIncreasing}
use Rattle.loop_shapes.proofs.Leasts.{least_at, none_at}
use Rattle.loop_shapes.proofs.entry.first_start.Goals as goal

both : (G : Graph) (xs : List ℕ) (x : ℕ) → (Contains xs x × IsStartWord G x) ↔ IsStartAmong G xs x
both G xs x = (λ p. record { among = p.0; start = p.1 }, λ s. (s.among, s.start))

itself : (xs : List ℕ) → IsStrictlyIncreasing xs → IsListOf (Contains xs) xs
itself xs up = record { ordered = up; each = λ x c. c; every = λ x c. c }

pub loop-x-preserved : goal.loop-x-preserved
loop-x-preserved c = below_more _ _ c.loop-x.invariant (λ s. false≢true (c.if-is_start.ensures.1 s))

pub returns-then-is_start : goal.returns-then-is_start
returns-then-is_start c =
    let G = graph_of c.args.net.now in
    let xs = c.args.xs.now in
    least_at (Contains xs) (IsStartWord G) (IsStartAmong G xs) xs (itself xs c.requires.ordered) (both G xs) c.loop-x.x-index c.loop-x-test.true c.loop-x.invariant (c.if-is_start.ensures.0 refl)

pub returns : goal.returns
returns c =
    let G = graph_of c.args.net.now in
    let xs = c.args.xs.now in
    none_at (Contains xs) (IsStartWord G) (IsStartAmong G xs) xs (itself xs c.requires.ordered) (both G xs) c.loop-x.x-index c.loop-x-test.false c.loop-x.invariant
