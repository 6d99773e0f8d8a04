-- Step edges as tests on addresses.
use Rattle.std.proofs.Common.{◌≡◌, ℕ, zero, suc, ◌<◌, ◌⊎◌, inl, inr, List, [], ◌∷◌, length, get_or, map, Bool, true, false, ◌&&◌, refl, ap, sym, ◌∙◌, subst, arith, if◌then◌else◌, ◌==◌}
use Rattle.std.specs.List.{Contains}
use Rattle.loop_data.specs.declared.graph.Word.{Word}
use Rattle.loop_data.specs.declared.graph.Graph.{Graph}
use Rattle.loop_data.specs.Paths.{addresses, Leads, IsWord}
use Rattle.loop_data.specs.Nests.{has, leads_in}
use Rattle.loop_data.proofs.Lists.{In, to_in, from_in}
use Rattle.loop_data.proofs.Tests.{eq_of, is_eq, and_true, true_and}

pub has_in : (xs : List ℕ) (x : ℕ) → has xs x ≡ true → In xs x
has_in [] x h = absurd (cc)
has_in (y ∷ ys) x h = go (y == x) refl h (has_in ys x)
  where
    go : (b : Bool) → (y == x) ≡ b → (if b then true else has ys x) ≡ true → (has ys x ≡ true → In ys x) → (y ≡ x) ⊎ In ys x
    go true e h later = inl (eq_of y x e)
    go false e h later = inr (later h)

pub in_has : (xs : List ℕ) (x : ℕ) → In xs x → has xs x ≡ true
in_has [] x i = absurd i
in_has (y ∷ ys) x (inl e) = ap (λ b. if b then true else has ys x) (is_eq y x e)
in_has (y ∷ ys) x (inr i) = go (y == x) (in_has ys x i)
  where
    go : (b : Bool) → has ys x ≡ true → (if b then true else has ys x) ≡ true
    go true h = refl
    go false h = h

pub has_contains : (xs : List ℕ) (x : ℕ) → has xs x ≡ true → Contains xs x
has_contains xs x h = from_in xs x (has_in xs x h)

pub contains_has : (xs : List ℕ) (x : ℕ) → Contains xs x → has xs x ≡ true
contains_has xs x c = in_has xs x (to_in xs x c)

-- a member of a list of words, by recursion
abbrev pub Within : List Word → Word → Type 0
Within [] w = ⊥
Within (x ∷ xs) w = (x ≡ w) ⊎ Within xs w

pub within_at : (xs : List Word) (w : Word) (k : ℕ) → k < length xs → get_or xs k w ≡ w → Within xs w
within_at [] w k l e = absurd (omega arith)
within_at (x ∷ xs) w zero l e = inl e
within_at (x ∷ xs) w (suc k) l e = inr (within_at xs w k (omega arith) e)

pub at_within : (xs : List Word) (w : Word) → Within xs w → Contains xs w
at_within [] w i = absurd i
at_within (x ∷ xs) w (inl e) = (0, omega arith, e)
at_within (x ∷ xs) w (inr i) = let c = at_within xs w i in (suc c.0, omega arith, c.2)

leads_test : (ws : List Word) (w : Word) (u v : ℕ) → Within ws w → w.at ≡ u → has w.steps.items v ≡ true → leads_in ws u v ≡ true
leads_test [] w u v i e h = absurd i
leads_test (x ∷ xs) w u v (inl q) e h =
    ap (λ b. if b then true else leads_in xs u v) (true_and (x.at == u) (has x.steps.items v) (is_eq x.at u (ap (λ (z : Word). z.at) q ∙ e)) (subst (λ (z : Word). has z.steps.items v ≡ true) (sym q) h))
leads_test (x ∷ xs) w u v (inr i) e h = go ((x.at == u) && has x.steps.items v) (leads_test xs w u v i e h)
  where
    go : (b : Bool) → leads_in xs u v ≡ true → (if b then true else leads_in xs u v) ≡ true
    go true k = refl
    go false k = k

tested : (ws : List Word) (u v : ℕ) → leads_in ws u v ≡ true → (w : Word) × Within ws w × (w.at ≡ u) × (has w.steps.items v ≡ true)
tested [] u v e = absurd (cc)
tested (x ∷ xs) u v e = go ((x.at == u) && has x.steps.items v) refl e (tested xs u v)
  where
    go : (b : Bool) → ((x.at == u) && has x.steps.items v) ≡ b → (if b then true else leads_in xs u v) ≡ true → (leads_in xs u v ≡ true → (w : Word) × Within xs w × (w.at ≡ u) × (has w.steps.items v ≡ true))
        → (w : Word) × Within (x ∷ xs) w × (w.at ≡ u) × (has w.steps.items v ≡ true)
    go true f e later = let a = and_true _ _ f in (x, inl refl, eq_of x.at u a.0, a.1)
    go false f e later = let r = later e in (r.0, inr r.1, r.2, r.3)

pub leads_is : (G : Graph) (u v : ℕ) → Leads G u v → leads_in G.words u v ≡ true
leads_is G u v l = leads_test G.words l.word u v (let c = l.among in within_at G.words l.word c.0 c.1 c.2) l.at (contains_has l.word.steps.items v l.step)

pub is_leads : (G : Graph) (u v : ℕ) → leads_in G.words u v ≡ true → Leads G u v
is_leads G u v e = let r = tested G.words u v e in record { word = r.0; among = at_within G.words r.0 r.1; at = r.2; step = has_contains (r.0).steps.items v r.3 }

-- a word from which an edge leads is a word of the program
pub word_from : (G : Graph) (u v : ℕ) → Leads G u v → IsWord G u
word_from G u v l = from_in (addresses G) u (go G.words (let c = l.among in within_at G.words l.word c.0 c.1 c.2))
  where
    go : (ws : List Word) → Within ws l.word → In (map (λ (w : Word). w.at) ws) u
    go [] i = absurd i
    go (x ∷ xs) (inl e) = inl (ap (λ (z : Word). z.at) e ∙ l.at)
    go (x ∷ xs) (inr i) = inr (go xs i)
