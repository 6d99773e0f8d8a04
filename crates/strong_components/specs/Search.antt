-- What holds during a search for strongly connected components.
use Rattle.std.specs.Prelude.{ℕ, ◌≡◌, ◌+◌, ◌*◌, ◌<◌, ◌≤◌, Bool, true, false, if◌then◌else◌, nat_lt, ◌-◌, List, [], ◌∷◌, ◌++◌, length, slice_set, slice_get, slice_index, Option, Some, Contains, count_by}
use Rattle.strong_components.specs.declared.graph.Successors.{Successors}
use Rattle.strong_components.specs.declared.search.Mark.{Mark}
use Rattle.strong_components.specs.declared.search.Mark.TheVariants.{Unseen, Open, Closed}
use Rattle.strong_components.specs.declared.search.Search.{Search}
use Rattle.strong_components.specs.Graph.{IsEdge, HasPath}

-- each number of a list is above those before it
abbrev pub Rises : List ℕ → Type 0
Rises xs = (i j : ℕ) → i < j → j < length xs → slice_index xs i < slice_index xs j

-- x is the last of a list
abbrev pub IsLast : List ℕ → ℕ → Type 0
IsLast xs x = slice_get xs (length xs - 1) ≡ Some x

-- of the numbers of a list, those up to a limit are left
pub record IsCut (old new : List ℕ) (limit : ℕ) : Type 0 where
  pub rises : Rises new
  pub old_ones : (b : ℕ) → Contains new b → Contains old b
  pub not_above : (b : ℕ) → Contains new b → b ≤ limit
  pub kept : (b : ℕ) → Contains old b → b ≤ limit → Contains new b
  pub no_more : length new ≤ length old

abbrev pub is_unseen : Mark → Bool
is_unseen Unseen = true
is_unseen (Open place) = false
is_unseen (Closed number) = false

-- how many nodes are not seen yet
abbrev pub unseen_count : List Mark → ℕ
unseen_count marks = count_by is_unseen marks

-- no node that was seen is unseen now
abbrev pub KeepsSeen : List Mark → List Mark → Type 0
KeepsSeen old new = (v : ℕ) → slice_get new v ≡ Some Unseen → slice_get old v ≡ Some Unseen

-- a mark after the open nodes from a place on were closed under a number
abbrev pub closed_from : ℕ → ℕ → Mark → Mark
closed_from place number Unseen = Unseen
closed_from place number (Open at) = if nat_lt at place then Open at else Closed number
closed_from place number (Closed other) = Closed other

-- the open nodes are those of the stack, each marked with its place there
pub record IsPlaced (marks : List Mark) (stack : List ℕ) : Type 0 where
  pub marked : (i v : ℕ) → slice_get stack i ≡ Some v → slice_get marks v ≡ Some (Open i)
  pub stacked : (i v : ℕ) → slice_get marks v ≡ Some (Open i) → slice_get stack i ≡ Some v

-- no bound parts place i from a lower place j
abbrev pub AtOrAbove : List ℕ → ℕ → ℕ → Type 0
AtOrAbove bounds i j = (b : ℕ) → Contains bounds b → b ≤ i → b ≤ j

-- an edge from place i to w is done with: w is seen, and where it is open, no bound parts it from i
pub record IsDone (marks : List Mark) (bounds : List ℕ) (i w : ℕ) : Type 0 where
  pub seen : slice_get marks w ≡ Some Unseen → ⊥
  pub joined : (p : ℕ) → slice_get marks w ≡ Some (Open p) → AtOrAbove bounds i p

-- a node is closed, in a component of at most this number
pub record IsClosedBy (marks : List Mark) (w most : ℕ) : Type 0 where
  pub number : ℕ
  pub is : slice_get marks w ≡ Some (Closed number)
  pub below : number ≤ most

-- the number of a component is that of a closed node
pub record IsUsed (marks : List Mark) (number : ℕ) : Type 0 where
  pub node : ℕ
  pub is : slice_get marks node ≡ Some (Closed number)

-- The open nodes lie on the stack. Those at the places of the path are being visited, each reached from
-- the one before. The bounds part the stack into segments, each strongly connected; every node reaches
-- those above it. What the other open nodes lead to is closed, or open and not in a lower segment.
pub record IsState (nodes : List Successors) (marks : List Mark) (stack bounds path : List ℕ) (count : ℕ)
    : Type 0 where
  pub all_marked : length marks ≡ length nodes
  pub placed : IsPlaced marks stack
  pub path_rises : Rises path
  pub path_on_stack : (t : ℕ) → Contains path t → t < length stack
  pub bounds_rise : Rises bounds
  pub bounds_on_path : (b : ℕ) → Contains bounds b → Contains path b
  pub first_bound : 0 < length stack → Contains bounds 0
  pub joined : (i j u v : ℕ) → slice_get stack i ≡ Some u → slice_get stack j ≡ Some v
      → AtOrAbove bounds i j → HasPath nodes u v
  pub done : (i u w : ℕ) → slice_get stack i ≡ Some u → (Contains path i → ⊥)
      → IsEdge nodes u w → IsDone marks bounds i w
  pub closed_edges : (u w c : ℕ) → slice_get marks u ≡ Some (Closed c)
      → IsEdge nodes u w → IsClosedBy marks w c
  pub closed_below : (u c : ℕ) → slice_get marks u ≡ Some (Closed c) → c < count
  pub closed_used : (c : ℕ) → c < count → IsUsed marks c
  pub closed_joined : (u v c : ℕ) → slice_get marks u ≡ Some (Closed c)
      → slice_get marks v ≡ Some (Closed c) → HasPath nodes u v
  pub counted : count + length bounds + unseen_count marks ≤ length nodes
  pub stacked : length stack + unseen_count marks ≤ length nodes

-- the segments from that of a successor on are joined, where it is open
pub record IsMerged (successor : Option ℕ) (marks : List Mark) (old new : List ℕ) : Type 0 where
  pub cut : (w p : ℕ) → successor ≡ Some w → slice_get marks w ≡ Some (Open p) → IsCut old new p
  pub kept : ((w p : ℕ) → successor ≡ Some w → slice_get marks w ≡ Some (Open p) → ⊥) → new ≡ old

-- a search of these nodes is in such a state
abbrev pub IsSound : List Successors → Search → Type 0
IsSound nodes s = IsState nodes s.marks.items s.stack.items s.bounds.items s.path.items s.count

-- a node was opened, as a segment of its own
pub record IsEntered (old new : Search) (node : ℕ) : Type 0 where
  pub marks : new.marks.items ≡ slice_set old.marks.items node (Open (length old.stack.items))
  pub stack : new.stack.items ≡ old.stack.items ++ node ∷ []
  pub bounds : new.bounds.items ≡ old.bounds.items ++ length old.stack.items ∷ []
  pub path : new.path.items ≡ old.path.items ++ length old.stack.items ∷ []
  pub count : new.count ≡ old.count

-- node u at place t is the last of the path, and all its edges are done with
pub record IsReady (nodes : List Successors) (s : Search) (t u : ℕ) : Type 0 where
  pub state : IsSound nodes s
  pub last : IsLast s.path.items t
  pub at : slice_get s.stack.items t ≡ Some u
  pub done : (w : ℕ) → IsEdge nodes u w → IsDone s.marks.items s.bounds.items t w

-- how many steps a search has left at most
abbrev pub work_left : Search → ℕ
work_left s = 2 * unseen_count s.marks.items + length s.path.items

-- the number of a closed node
abbrev pub number_of : Mark → ℕ
number_of Unseen = 0
number_of (Open place) = 0
number_of (Closed number) = number
