-- A loop with its inner loops, as tests on addresses: what the analysis of loops rests on.
use Rattle.std.specs.Prelude.{ℕ, ◌≡◌, ◌≢◌, ◌<◌, ◌==◌, ◌⊎◌, Bool, true, false, ◌&&◌, if◌then◌else◌, List, [], ◌∷◌, Option, Some, None}
use Rattle.loop_data.specs.declared.graph.Word.{Word}
use Rattle.loop_data.specs.declared.graph.Graph.{Graph}
use Rattle.loop_data.specs.declared.shape.Level.{Level}

-- the root and the loops inside it, and which word may follow which
pub record Nest : Type 0 where
  pub root : Level
  pub inner : List Level
  pub leads : ℕ → ℕ → Bool

abbrev pub has : List ℕ → ℕ → Bool
has [] x = false
has (y ∷ ys) x = if y == x then true else has ys x

-- a step edge leads from one address to the other
abbrev pub leads_in : List Word → ℕ → ℕ → Bool
leads_in [] u v = false
leads_in (w ∷ ws) u v = if (w.at == u) && has w.steps.items v then true else leads_in ws u v

-- the nest of a root and its inner loops
abbrev pub nest_of : Graph → Level → List Level → Nest
nest_of G root inner = record { root = root; inner = inner; leads = leads_in G.words }

abbrev pub In : List Level → Level → Type 0
In [] l = ⊥
In (x ∷ xs) l = (x ≡ l) ⊎ In xs l

-- no loop is listed twice
abbrev pub AreDistinct : List Level → Type 0
AreDistinct [] = Unit {0}
AreDistinct (l ∷ ls) = (¬ In ls l) × AreDistinct ls

abbrev pub levels : Nest → List Level
levels N = N.root ∷ N.inner

abbrev pub Among : Nest → Level → Type 0
Among N l = In (levels N) l

-- the loop of a depth round a word
abbrev pub around : List Level → ℕ → ℕ → Option Level
around [] k x = None
around (l ∷ ls) k x = if l.depth == k then (if has l.body x then Some l else around ls k x) else around ls k x

-- the word at x is in the loop
abbrev pub Holds : Level → ℕ → Type 0
Holds l x = has l.body x ≡ true

-- an edge between two words of a body
pub record Edge (N : Nest) (body : List ℕ) (u v : ℕ) : Type 0 where
  pub from : has body u ≡ true
  pub to : has body v ≡ true
  pub leads : N.leads u v ≡ true

-- the words, the newest first, lead from the loop's header to x, all of one pass
abbrev pub IsPassTo : Nest → Level → List ℕ → ℕ → Type 0
IsPassTo N l [] x = x ≡ l.header
IsPassTo N l (y ∷ ys) x = Edge N l.body y x × (x ≢ l.header) × IsPassTo N l ys y

-- the words, the newest first, are those of a whole pass
abbrev pub IsPass : Nest → Level → List ℕ → Type 0
IsPass N l [] = ⊥
IsPass N l (y ∷ ys) = Edge N l.body y l.header × IsPassTo N l ys y

-- the branch at which the loop is left has one side in the body and one outside
pub record HasSides (N : Nest) (l : Level) : Type 0 where
  pub inside : Holds l l.exit
  pub on : ℕ
  pub leads_on : N.leads l.exit on ≡ true
  pub stays : Holds l on
  pub out : ℕ
  pub leads_out : N.leads l.exit out ≡ true
  pub leaves : has l.body out ≡ false

-- an edge that closes no loop
abbrev pub ClosesNone : Nest → ℕ → ℕ → Type 0
ClosesNone N u v = (l : Level) → Among N l → Holds l u → v ≢ l.header

-- an order of the words, in which each edge that closes no loop goes up
pub record IsRank (N : Nest) (rank : ℕ → ℕ) (bound : ℕ) : Type 0 where
  pub up : (u v : ℕ) → Edge N N.root.body u v → ClosesNone N u v → rank u < rank v
  pub below : (u : ℕ) → Holds N.root u → rank u < bound

pub record HasRank (N : Nest) : Type 0 where
  pub rank : ℕ → ℕ
  pub bound : ℕ
  pub is : IsRank N rank bound

-- a word is led to from the root's body, and a header from outside its loop
pub record IsEntered (N : Nest) (v : ℕ) : Type 0 where
  pub from : ℕ
  pub edge : Edge N N.root.body from v
  pub outside : (l : Level) → Among N l → v ≡ l.header → has l.body from ≡ false

-- how the bodies of the loops lie to each other
pub record AreNested (N : Nest) : Type 0 where
  -- each loop has its header and lies in the root, and its header alone is entered from outside
  pub header : (l : Level) → Among N l → Holds l l.header
  pub within : (l : Level) → Among N l → (x : ℕ) → Holds l x → Holds N.root x
  pub enter : (l : Level) → Among N l → (u v : ℕ) → Edge N N.root.body u v → has l.body u ≡ false → Holds l v
      → v ≡ l.header
  -- a loop whose header lies in another lies in it whole, and no two lie in each other
  pub nested : (l m : Level) → Among N l → Among N m → Holds m l.header → (x : ℕ) → Holds l x → Holds m x
  pub apart : (l m : Level) → Among N l → Among N m → Holds m l.header → Holds l m.header → l ≡ m
  -- of the loops round a word there is one of each depth, and the deeper lies in the other
  pub alone : (l m : Level) → Among N l → Among N m → l.depth ≡ m.depth → (x : ℕ) → Holds l x → Holds m x → l ≡ m
  pub deeper : (l m : Level) → Among N l → Among N m → l.depth < m.depth → (x : ℕ) → Holds l x → Holds m x
      → Holds l m.header
  -- the depths: the root's is 0, and that of no other; the others' are 1 and 2, and one of 2 lies in one of 1
  pub outermost : N.root.depth ≡ 0
  pub inner_deep : (l : Level) → In N.inner l → l.depth ≢ 0
  pub depth : (l : Level) → Among N l → l.depth < 3
  pub between : (m : Level) → Among N m → m.depth ≡ 2 → (l : Level) × Among N l × (l.depth ≡ 1) × Holds l m.header
  -- no loop is listed twice
  pub distinct : AreDistinct N.inner
  pub inner_header : (l : Level) → In N.inner l → l.header ≢ N.root.header

-- how each loop goes round, and where it is left
pub record HasShapes (N : Nest) : Type 0 where
  -- one edge closes the loop
  pub closes : (l : Level) → Among N l → Edge N l.body l.back l.header
  pub back : (l : Level) → Among N l → (u : ℕ) → Edge N l.body u l.header → u ≡ l.back
  -- one branch leaves it, which lies on each pass, and the root's in no inner loop
  pub sides : (l : Level) → Among N l → HasSides N l
  pub stays_in : (l : Level) → Among N l → (u v : ℕ) → Holds l u → u ≢ l.exit → N.leads u v ≡ true → Holds l v
  pub exits_lie : (l : Level) → Among N l → (ys : List ℕ) → IsPass N l ys → has ys l.exit ≡ true
  pub exit_outermost : (l : Level) → In N.inner l → has l.body N.root.exit ≡ false
  -- the other edges make no cycle, and each word but the root's header is led to
  pub ranked : HasRank N
  pub entered : (v : ℕ) → Holds N.root v → v ≢ N.root.header → IsEntered N v

-- what a nest promises
pub record IsNest (N : Nest) : Type 0 where
  pub bodies : AreNested N
  pub shapes : HasShapes N
