-- Words by their places: what they stand for, and where they lead.
use Rattle.std.proofs.Common.{◌≡◌, ℕ, zero, suc, ◌<◌, ◌≤◌, ◌⊎◌, ◌↔◌, inl, inr, Bool, if◌then◌else◌, List, [], ◌∷◌, length, get_or, None, refl, ap, sym, ◌∙◌, subst, arith}
use Rattle.std.specs.List.{Contains}
use Rattle.std.specs.List.Sorted.{IsStrictlyIncreasing}
use Rattle.std.proofs.lemmas.Bool.{cases_lt}
use Rattle.std.proofs.lemmas.List.{get_or_default, get_or-map, length-map}
use Rattle.std.proofs.lemmas.List.Kept.{AllPairs-from_increasing}
use Rattle.std.proofs.lemmas.List.Elements.{Contains-get_or}
use Rattle.rv64_decode.specs.Table.{decoded}
use Rattle.loop_data.specs.declared.graph.Word.{Word}
use Rattle.loop_data.specs.declared.graph.Graph.{Graph}
use Rattle.loop_data.specs.Paths.{addresses, addresses_of, IsInOrder, Leads}
use Rattle.loop_data.specs.LoopCode.{instr_among}
use Rattle.loop_data.proofs.Tests.{is_eq, is_ne}

-- the places of two equal numbers among numbers that rise
pub same_place : (xs : List ℕ) → IsStrictlyIncreasing xs → (i j : ℕ) → i < length xs → j < length xs → get_or xs i 0 ≡ get_or xs j 0 → i ≡ j
same_place xs up i j li lj e = below (cases_lt i j)
  where
    lt : (i j : ℕ) → i < j → j < length xs → get_or xs i 0 < get_or xs j 0
    lt i j l m = AllPairs-from_increasing xs up i j 0 l m

    below : (i < j) ⊎ (j ≤ i) → i ≡ j
    below (inl l) = let p = lt i j l lj in absurd (omega arith)
    below (inr l) = above (cases_lt j i)
      where
        above : (j < i) ⊎ (i ≤ j) → i ≡ j
        above (inl m) = let p = lt j i m li in absurd (omega arith)
        above (inr m) = omega arith

-- addresses that rise, place by place
abbrev Rise : List Word → Type 0
Rise ws = (i j : ℕ) → i < j → j < length ws → (d : Word) → (get_or ws i d).at < (get_or ws j d).at

rise_of : (ws : List Word) → IsStrictlyIncreasing (addresses_of ws) → Rise ws
rise_of ws up i j l m d =
    let n = length-map ws (λ (v : Word). v.at) in
    let p = AllPairs-from_increasing (addresses_of ws) up i j 0 l (omega arith) in
    let a = get_or-map (λ (v : Word). v.at) ws i d 0 (omega arith) in
    let b = get_or-map (λ (v : Word). v.at) ws j d 0 m in
    omega arith

instr_by : (ws : List Word) (i : ℕ) (w : Word) → Rise ws → i < length ws → get_or ws i w ≡ w → instr_among ws w.at ≡ decoded w.bits
instr_by [] i w up l e = absurd (omega arith)
instr_by (x ∷ xs) zero w up l e =
    let b = is_eq x.at w.at (ap (λ (v : Word). v.at) e) in
    ap (λ (t : Bool). if t then decoded x.bits else instr_among xs w.at) b ∙ ap (λ (v : Word). decoded v.bits) e
instr_by (x ∷ xs) (suc i) w up l e =
    let lt : x.at < (get_or xs i w).at = up 0 (suc i) (omega arith) l w in
    let same : (get_or xs i w).at ≡ w.at = ap (λ (v : Word). v.at) e in
    let b = is_ne x.at w.at (λ q. omega arith) in
    ap (λ (t : Bool). if t then decoded x.bits else instr_among xs w.at) b ∙ instr_by xs i w (λ j k m n d. up (suc j) (suc k) (omega arith) (omega arith) d) (omega arith) e

-- what the word at a place stands for
pub instr_is : (ws : List Word) (i x : ℕ) (w : Word) → IsStrictlyIncreasing (addresses_of ws) → i < length ws → get_or (addresses_of ws) i 0 ≡ x → w ≡ get_or ws i w → instr_among ws x ≡ decoded w.bits
instr_is ws i x w up l at e =
    let a : w.at ≡ x = ap (λ (v : Word). v.at) e ∙ sym (get_or-map (λ (v : Word). v.at) ws i w 0 l) ∙ at in
    subst (λ y. instr_among ws y ≡ decoded w.bits) a (instr_by ws i w (rise_of ws up) l (sym e))

pub no_instr : (ws : List Word) (x : ℕ) → (Contains (addresses_of ws) x → ⊥) → instr_among ws x ≡ None
no_instr [] x f = refl
no_instr (w ∷ ws) x f =
    let b = is_ne w.at x (λ e. f (0, omega arith, e)) in
    ap (λ (t : Bool). if t then decoded w.bits else instr_among ws x) b ∙ no_instr ws x (λ c. f (suc c.0, (let l = c.1 in omega arith), c.2))

pub address_at : (G : Graph) (k : ℕ) (w : Word) → k < length G.words → get_or G.words k w ≡ w → w.at ≡ get_or (addresses G) k 0
address_at G k w l e = sym (get_or-map (λ (v : Word). v.at) G.words k w 0 l ∙ ap (λ (v : Word). v.at) e)

-- where the word at a place leads
pub leads_from : (G : Graph) → IsInOrder G → (i x : ℕ) (w : Word) → i < length G.words → get_or (addresses G) i 0 ≡ x → w ≡ get_or G.words i w → (y : ℕ) → Contains w.steps.items y ↔ Leads G x y
leads_from G up i x w l at is y = (forth, back)
  where
    forth : Contains w.steps.items y → Leads G x y
    forth c = record { word = w; among = (i, l, sym is); at = address_at G i w l (sym is) ∙ at; step = c }

    back : Leads G x y → Contains w.steps.items y
    back lead =
        let n = length-map G.words (λ (v : Word). v.at) in
        let k = lead.among.0 in
        let m : k < length (addresses G) = let q = lead.among.1 in omega arith in
        let e : k ≡ i = same_place (addresses G) up k i m (omega arith) (sym (address_at G k lead.word lead.among.1 lead.among.2) ∙ lead.at ∙ sym at) in
        let same : lead.word ≡ w = sym lead.among.2 ∙ get_or_default G.words k lead.word w lead.among.1 ∙ ap (λ q. get_or G.words q w) e ∙ sym is in
        subst (λ (v : Word). Contains v.steps.items y) same lead.step

-- an address of no word leads nowhere
pub leads_nowhere : (G : Graph) (x y : ℕ) → (Contains (addresses G) x → ⊥) → Leads G x y → ⊥
leads_nowhere G x y f lead =
    let k = lead.among.0 in
    let n = length-map G.words (λ (v : Word). v.at) in
    f (subst (Contains (addresses G)) (sym (address_at G k lead.word lead.among.1 lead.among.2) ∙ lead.at) (Contains-get_or (addresses G) k 0 (let q = lead.among.1 in omega arith)))
