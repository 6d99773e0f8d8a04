-- A search from the entry: words that were visited lead to words that were found, and once all are
-- visited, those found are all that are reached.
use Rattle.std.proofs.Common.{◌≡◌, ℕ, ◌+◌, ◌^◌, ◌<◌, ◌≤◌, ◌⊎◌, inl, inr, IsTrue, is_some, List, [], ◌∷◌, ◌++◌, length, take, drop, get_or, Option, Some, None, Contains, sym, ap, subst, ◌∙◌, arith}
use Rattle.std.proofs.lemmas.List.Elements.{Contains-push_cases, Contains-get_or, Contains-append_left, All-contains}
use Rattle.std.proofs.lemmas.List.{take-append-drop, take_all, take_more}
use Rattle.elf_image.specs.Layout.{LieFrom}
use Rattle.flow_recovery.proofs.Segments.{code_below}
use Rattle.elf_image.specs.declared.image.Elf.{Elf}
use Rattle.rv64_decode.specs.Row.{next_pc}
use Rattle.loop_data.specs.Code.{IsCode}
use Rattle.loop_data.specs.Targets.{before, targets_at, pair_at, successors}
use Rattle.loop_data.specs.Reaching.{Reached, entry, alone, paired}
use Rattle.flow_recovery.specs.Reaching.{AreAllReached}
use Rattle.flow_recovery.specs.Search.{HasCodeOf, Grows, IsVisited, AreReached}
use Rattle.flow_recovery.proofs.Found.{Contains-grown, take-grown}
use Rattle.flow_recovery.proofs.Following.{wider}

pub HasCodeOf-grown : (elf : Elf) (old found targets : List ℕ) → Grows old found → HasCodeOf elf old targets → HasCodeOf elf found targets
HasCodeOf-grown elf old found targets g h = record { has = λ b m code. Contains-grown old found b g (h.has b m code) }

-- what was found by following a word
visited_alone : (elf : Elf) (found : List ℕ) (at : ℕ) (pair : Option ℕ) → HasCodeOf elf found (successors (targets_at elf pair at)) → HasCodeOf elf found (successors (targets_at elf None at))
visited_alone elf found at pair h = record { has = λ b m code. h.has b (wider elf at pair b m) code }

visited_paired : (elf : Elf) (old found : List ℕ) (at : ℕ) (pair : Option ℕ) (target : ℕ)
    → (Contains old (before at) × (pair ≡ pair_at elf at)) ⊎ ((¬ Contains old (before at)) × (pair ≡ None))
    → HasCodeOf elf found (successors (targets_at elf pair at))
    → Contains old (before at) → pair_at elf at ≡ Some target → HasCodeOf elf found (successors (targets_at elf (Some target) at))
visited_paired elf old found at pair target (inl p) h m e = subst (λ q. HasCodeOf elf found (successors (targets_at elf q at))) (p.1 ∙ e) h
visited_paired elf old found at pair target (inr p) h m e = absurd (p.0 m)

visited_behind : (elf : Elf) (mid found : List ℕ) (second next : ℕ) (behind : Option ℕ) (target : ℕ) → second ≡ next → behind ≡ pair_at elf second
    → (Contains mid second → IsTrue (is_some behind) → HasCodeOf elf found (successors (targets_at elf behind second)))
    → Contains mid next → pair_at elf next ≡ Some target → HasCodeOf elf found (successors (targets_at elf (Some target) next))
visited_behind elf mid found second next behind target s p h m e =
    let told : behind ≡ Some target = p ∙ ap (pair_at elf) s ∙ e in
    let here : Contains mid second = subst (Contains mid) (sym s) m in
    let all = h here (ap is_some told) in
    subst (λ x. HasCodeOf elf found (successors (targets_at elf (Some target) x))) s
    (subst (λ q. HasCodeOf elf found (successors (targets_at elf q second))) told all)

pub visited : (elf : Elf) (old mid found : List ℕ) (at second : ℕ) (pair behind : Option ℕ) → Grows old mid → Grows mid found
    → (Contains old (before at) × (pair ≡ pair_at elf at)) ⊎ ((¬ Contains old (before at)) × (pair ≡ None))
    → HasCodeOf elf mid (successors (targets_at elf pair at))
    → second ≡ next_pc at → behind ≡ pair_at elf second
    → (Contains mid second → IsTrue (is_some behind) → HasCodeOf elf found (successors (targets_at elf behind second)))
    → IsVisited elf old at found
visited elf old mid found at second pair behind g h cases has s p later =
    let has' = HasCodeOf-grown elf mid found (successors (targets_at elf pair at)) h has in
    record {
      alone = visited_alone elf found at pair has';
      paired = λ target m e. visited_paired elf old found at pair target cases has' m e;
      behind = λ target m e. visited_behind elf mid found second (next_pc at) behind target s p later (Contains-grown old mid (next_pc at) g m) e;
    }

-- each of these words leads to words found alone
pub record LeadTo (elf : Elf) (visited found : List ℕ) : Type 0 where
  pub alone : (a : ℕ) → Contains visited a → HasCodeOf elf found (successors (targets_at elf None a))
  pub paired : (a target : ℕ) → Contains visited a → Contains visited (before a) → pair_at elf a ≡ Some target → HasCodeOf elf found (successors (targets_at elf (Some target) a))

pub LeadTo-none : (elf : Elf) (found : List ℕ) → LeadTo elf [] found
LeadTo-none elf found =
    record {
      alone = λ a m. absurd (let l = m.1 in omega arith);
      paired = λ a target m n e. absurd (let l = m.1 in omega arith);
    }

next_before : (a : ℕ) → a < 2 ^ 64 → next_pc (before a) ≡ a
next_before a h = omega arith

-- one more word is visited
pub LeadTo-push : (elf : Elf) (visited old found : List ℕ) (at : ℕ) → LeadTo elf visited old → ((a : ℕ) → Contains visited a → Contains old a) → ((a : ℕ) → Contains old a → a < 2 ^ 64)
    → Contains old at → Grows old found → IsVisited elf old at found → LeadTo elf (visited ++ at ∷ []) found
LeadTo-push elf visited old found at lead within small here g now =
    record {
      alone = λ a m. by_alone a (Contains-push_cases visited at a m);
      paired = λ a target m n e. by_paired a target (Contains-push_cases visited at a m) (Contains-push_cases visited at (before a) n) e;
    }
  where
    by_alone : (a : ℕ) → Contains visited a ⊎ (at ≡ a) → HasCodeOf elf found (successors (targets_at elf None a))
    by_alone a (inl m) = HasCodeOf-grown elf old found _ g (lead.alone a m)
    by_alone a (inr e) = subst (λ x. HasCodeOf elf found (successors (targets_at elf None x))) e now.alone

    in_old : (a : ℕ) → Contains visited a ⊎ (at ≡ a) → Contains old a
    in_old a (inl m) = within a m
    in_old a (inr e) = subst (Contains old) e here

    by_paired : (a target : ℕ) → Contains visited a ⊎ (at ≡ a) → Contains visited (before a) ⊎ (at ≡ before a) → pair_at elf a ≡ Some target → HasCodeOf elf found (successors (targets_at elf (Some target) a))
    by_paired a target (inl m) (inl n) e = HasCodeOf-grown elf old found _ g (lead.paired a target m n e)
    by_paired a target (inr q) n e =
        subst (λ x. HasCodeOf elf found (successors (targets_at elf (Some target) x))) q
        (now.paired target (subst (λ x. Contains old (before x)) (sym q) (in_old (before a) n)) (ap (pair_at elf) q ∙ e))
    by_paired a target (inl m) (inr q) e =
        let is : next_pc at ≡ a = ap next_pc q ∙ next_before a (small a (within a m)) in
        subst (λ x. HasCodeOf elf found (successors (targets_at elf (Some target) x))) is
        (now.behind target (subst (Contains old) (sym is) (within a m)) (ap (pair_at elf) is ∙ e))

-- once each word found leads to words found alone, all that are reached are found
pub every_reached : (elf : Elf) (found : List ℕ) → LeadTo elf found found → (IsCode elf elf.entry → Contains found elf.entry) → (a : ℕ) → Reached elf a → Contains found a
every_reached elf found lead first _ (entry code) = first code
every_reached elf found lead first _ (alone a b r m code) = (lead.alone a (every_reached elf found lead first a r)).has b m code
every_reached elf found lead first _ (paired a b target r q e m code) =
    (lead.paired a target (every_reached elf found lead first a r) (every_reached elf found lead first (before a) q) e).has b m code

-- only code is reached
pub reached_code : (elf : Elf) (a : ℕ) → Reached elf a → IsCode elf a
reached_code elf _ (entry code) = code
reached_code elf _ (alone a b r m code) = code
reached_code elf _ (paired a b target r q e m code) = code

-- a turn of the search
pub LeadTo-turn : (elf : Elf) (old found : List ℕ) (done at : ℕ) → LieFrom 0 elf.segments → AreReached elf old → LeadTo elf (take done old) old → done < length old → at ≡ get_or old done 0
    → Grows old found → IsVisited elf old at found → LeadTo elf (take (done + 1) found) found
LeadTo-turn elf old found done at lie are lead in_old is g now =
    let here : Contains old at = subst (Contains old) (sym is) (Contains-get_or old done 0 in_old) in
    let next : take (done + 1) found ≡ take done old ++ at ∷ [] =
    take-grown (done + 1) old found g (omega arith) ∙ take_more old done 0 in_old ∙ ap (λ x. take done old ++ x ∷ []) (sym is) in
    let small = λ (a : ℕ) (m : Contains old a). code_below elf a lie (reached_code elf a (All-contains (Reached elf) old a are.each m)) in
    let within = λ (a : ℕ) (m : Contains (take done old) a). subst (λ l. Contains l a) (take-append-drop done old) (Contains-append_left (take done old) (drop done old) a m) in
    subst (λ l. LeadTo elf l found) (sym next) (LeadTo-push elf (take done old) old found at lead within small here g now)

-- the end of the search
pub LeadTo-end : (elf : Elf) (found : List ℕ) (done : ℕ) → AreReached elf found → LeadTo elf (take done found) found → length found ≤ done
    → (IsCode elf elf.entry → Contains found elf.entry) → AreAllReached elf found
LeadTo-end elf found done are lead past first =
    record {
      each = λ a m. All-contains (Reached elf) found a are.each m;
      every = every_reached elf found (subst (λ l. LeadTo elf l found) (take_all done found past) lead) first;
    }
