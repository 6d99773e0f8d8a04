-- Searches over places, and what they say of addresses.
use Rattle.std.proofs.Common.{◌≡◌, ◌≢◌, ℕ, ◌<◌, ◌≤◌, ◌⊎◌, inl, inr, Bool, true, false, ◌↔◌, List, [], ◌∷◌, length, get_or, map, refl, ap, sym, ◌∙◌, subst, arith}
use Rattle.std.specs.List.{Contains}
use Rattle.std.proofs.lemmas.List.{length-map, get_or-map, get_or_default, get_or_past}
use Rattle.std.proofs.lemmas.Bool.{cases_lt, false≢true}
use Rattle.std.proofs.lemmas.List.Elements.{Contains-get_or}
use Rattle.loop_data.specs.declared.graph.Word.{Word}
use Rattle.loop_data.specs.declared.graph.Graph.{Graph}
use Rattle.loop_data.specs.Paths.{addresses, IsInOrder, IsWord, Leads, Reaches}
use Rattle.loop_data.specs.Sets.{HasAtMost}
use Rattle.loop_shapes.specs.Sets.{AreDifferent, HasOver}
use Rattle.loop_shapes.specs.Places.{HasPredecessors, AreFlags, count_of, at}
use Rattle.loop_data.specs.Bodies.{ReachesPast, InPart, IsClosed, IsHeader, InBody}
use Rattle.loop_shapes.specs.Search.{RowLeads, InPlaces, HasSearched}
use Rattle.loop_shapes.specs.Net.{IsAmong, HasFew, IsPart, HasPart, HasBody, IsOnlyEntry}
use Rattle.loop_data.proofs.Ways.{stop, step, backward, ends_in}
use Rattle.loop_data.proofs.Lists.{from_in, no_longer, apart_from_places}
use Rattle.loop_shapes.proofs.Rows.{alone, same_place, address_at, none_in}
use Rattle.loop_shapes.specs.Lines.{IsRowOf}
use Rattle.loop_data.specs.Flows.{AreRowsWithin, row_at}

-- a set with more than n members has not at most n
pub over_not_at_most : (n : ℕ) (P : ℕ → Type 0) → HasOver n P → HasAtMost n P → ⊥
over_not_at_most n P o m =
    let l : length o.members ≤ length m.members = no_longer o.members m.members (apart_from_places o.members o.apart) (λ x c. m.all x (o.each x c)) in
    let a = o.bound in
    let b = m.bound in
    omega arith

-- a word has a place
pub record HasPlace (G : Graph) (x : ℕ) : Type 0 where
  pub place : ℕ
  pub within : place < count_of G
  pub is : at G place ≡ x

pub place_of_word : (G : Graph) (x : ℕ) → IsWord G x → HasPlace G x
place_of_word G x w = record { place = w.0; within = w.1; is = get_or_default (addresses G) w.0 0 x w.1 ∙ w.2 }

pub place_of_source : (G : Graph) (x y : ℕ) → Leads G x y → HasPlace G x
place_of_source G x y lead =
    let n = length-map G.words (λ (v : Word). v.at) in
    let l = lead.among.1 in
    record { place = lead.among.0; within = omega arith; is = sym (address_at G lead.among.0 lead.word l lead.among.2) ∙ lead.at }

pub word_at : (G : Graph) (i : ℕ) → i < count_of G → IsWord G (at G i)
word_at G i l = Contains-get_or (addresses G) i 0 l

-- a row that has a number is there
pub row_within : (rows : List (List ℕ)) (j i : ℕ) → Contains (row_at rows j) i → j < length rows
row_within rows j i c = by (cases_lt j (length rows))
  where
    by : (j < length rows) ⊎ (length rows ≤ j) → j < length rows
    by (inl l) = l
    by (inr l) = none_in i (subst (λ (q : List ℕ). Contains q i) (get_or_past rows j [] l) c)

-- from x the word at one of some places is reached without passing that at h
record ReachesOneAt (G : Graph) (h : ℕ) (us : List ℕ) (x : ℕ) : Type 0 where
  pub source : ℕ
  pub among : Contains us source
  pub way : ReachesPast G (at G h) x (at G source)

abbrev InParts : Graph → ℕ → List ℕ → ℕ → Type 0
InParts G h us x = (x ≡ at G h) ⊎ ReachesOneAt G h us x

module _ (G : Graph) (up : IsInOrder G) (rows : List (List ℕ)) (s : HasPredecessors G (count_of G) rows) where
  pub within : AreRowsWithin rows
  within j i c = let l = (s.each j i c).0 in let n = s.count in omega arith

  to_past : (h u i : ℕ) → h < count_of G → i < count_of G → Reaches (RowLeads rows) (λ j. j ≢ h) i u → ReachesPast G (at G h) (at G i) (at G u)
  to_past h u i lh li r = backward (RowLeads rows) (λ j. j ≢ h) There u base prior i r li
    where
      There : ℕ → Type 0
      There j = j < count_of G → ReachesPast G (at G h) (at G j) (at G u)

      other : (j : ℕ) → j < count_of G → j ≢ h → at G j ≢ at G h
      other j l ne e = ne (same_place (addresses G) up j h l lh e)

      base : There u
      base l = stop (Leads G) (λ y. y ≢ at G h) (at G u) (other u l (ends_in i u r))

      prior : (x y : ℕ) → x ≢ h → RowLeads rows x y → y ≢ h → There y → There x
      prior x y nx lead ny t l =
          let n = s.count in
          let m = row_within rows y x lead in
          step (Leads G) (λ z. z ≢ at G h) (at G x) (at G y) (at G u) (other x l nx) (s.each y x lead).1 (t (omega arith))

  from_past : (h u x : ℕ) → h < count_of G → u < count_of G → ReachesPast G (at G h) x (at G u) → (i : ℕ) × (i < count_of G) × (at G i ≡ x) × Reaches (RowLeads rows) (λ j. j ≢ h) i u
  from_past h u x lh lu r = backward (Leads G) (λ y. y ≢ at G h) Here (at G u) base prior x r
    where
      Here : ℕ → Type 0
      Here y = (i : ℕ) × (i < count_of G) × (at G i ≡ y) × Reaches (RowLeads rows) (λ j. j ≢ h) i u

      base : Here (at G u)
      base = (u, lu, refl, stop (RowLeads rows) (λ j. j ≢ h) u (λ e. ends_in x (at G u) r (ap (at G) e)))

      prior : (y z : ℕ) → y ≢ at G h → Leads G y z → z ≢ at G h → Here z → Here y
      prior y z ny lead nz t =
          let p = place_of_source G y z lead in
          let edge = subst (λ (q : ℕ). Leads G q (at G t.0)) (sym p.is) (subst (λ (q : ℕ). Leads G y q) (sym t.2) lead) in
          (p.place, p.within, p.is, step (RowLeads rows) (λ j. j ≢ h) p.place t.0 u (λ e. ny (sym p.is ∙ ap (at G) e)) (s.every t.0 p.place p.within t.1 edge) t.3)

  places_within : (h : ℕ) (us : List ℕ) (i : ℕ) → h < count_of G → ((u : ℕ) → Contains us u → u < count_of G) → InPlaces rows h us i → i < count_of G
  places_within h us i lh lu (inl e) = omega arith
  places_within h us i lh lu (inr r) = backward (RowLeads rows) (λ j. j ≢ h) (λ j. j < count_of G) r.source (lu r.source r.among) (λ x y nx lead ny l. (s.each y x lead).0) i r.way

  to_parts : (h : ℕ) (us : List ℕ) (i : ℕ) → h < count_of G → i < count_of G → InPlaces rows h us i → InParts G h us (at G i)
  to_parts h us i lh li (inl e) = inl (ap (at G) e)
  to_parts h us i lh li (inr r) = inr (record { source = r.source; among = r.among; way = to_past h r.source i lh li r.way })

  from_parts : (h : ℕ) (us : List ℕ) (x : ℕ) → h < count_of G → ((u : ℕ) → Contains us u → u < count_of G) → InParts G h us x → (i : ℕ) × (at G i ≡ x) × InPlaces rows h us i
  from_parts h us x lh lu (inl e) = (h, sym e, inl refl)
  from_parts h us x lh lu (inr r) =
      let t = from_past h r.source x lh (lu r.source r.among) r.way in
      (t.0, t.2, inr (record { source = r.source; among = r.among; way = t.3 }))

  parts_over : (h : ℕ) (us : List ℕ) → h < count_of G → ((u : ℕ) → Contains us u → u < count_of G) → HasOver 256 (InPlaces rows h us) → HasOver 256 (InParts G h us)
  parts_over h us lh lu o = record { members = map (at G) o.members; apart = apart; bound = subst (λ n. 256 < n) (sym count) o.bound; each = each }
    where
      count : length (map (at G) o.members) ≡ length o.members
      count = length-map o.members (at G)

      inside : (k : ℕ) → k < length o.members → InPlaces rows h us (get_or o.members k 0)
      inside k l = o.each (get_or o.members k 0) (Contains-get_or o.members k 0 l)

      value : (k : ℕ) → k < length o.members → get_or (map (at G) o.members) k 0 ≡ at G (get_or o.members k 0)
      value k l = get_or-map (at G) o.members k 0 0 l

      apart : AreDifferent (map (at G) o.members)
      apart i j lt lj e =
          let c = count in
          let mj : j < length o.members = omega arith in
          let mi : i < length o.members = omega arith in
          o.apart i j lt mj (same_place (addresses G) up (get_or o.members i 0) (get_or o.members j 0) (places_within h us (get_or o.members i 0) lh lu (inside i mi)) (places_within h us (get_or o.members j 0) lh lu (inside j mj)) (sym (value i mi) ∙ e ∙ value j mj))

      each : (x : ℕ) → Contains (map (at G) o.members) x → InParts G h us x
      each x c =
          let l = c.1 in
          let n = count in
          let m : c.0 < length o.members = omega arith in
          let is : at G (get_or o.members c.0 0) ≡ x = sym (value c.0 m) ∙ get_or_default (map (at G) o.members) c.0 0 x l ∙ c.2 in
          subst (InParts G h us) is (to_parts h us (get_or o.members c.0 0) lh (places_within h us (get_or o.members c.0 0) lh lu (inside c.0 m)) (inside c.0 m))

  -- what a search over places finds of a set that those words make up
  searched : (P : ℕ → Type 0) (h : ℕ) (us : List ℕ) → h < count_of G → ((u : ℕ) → Contains us u → u < count_of G) → ((x : ℕ) → InParts G h us x ↔ P x) → (found : List ℕ) (small : Bool) → HasSearched small rows h us found → HasFew small G P found
  searched P h us lh lu same found true a = (a.0, record { each = λ i c. (places_within h us i lh lu (a.1.each i c), (same (at G i)).0 (to_parts h us i lh (places_within h us i lh lu (a.1.each i c)) (a.1.each i c))); every = every })
    where
      every : (x : ℕ) → P x → IsAmong G found x
      every x p = let t = from_parts h us x lh lu ((same x).1 p) in record { place = t.0; among = a.1.every t.0 t.2; is = t.1 }
  searched P h us lh lu same found false a = over_not_at_most 256 P (let o = parts_over h us lh lu a in record { members = o.members; apart = o.apart; bound = o.bound; each = λ x c. (same x).0 (o.each x c) })

  one_part : (h u x : ℕ) → InParts G h (u ∷ []) x ↔ InPart G (at G h) (at G u) x
  one_part h u x = (there, back)
    where
      there : InParts G h (u ∷ []) x → InPart G (at G h) (at G u) x
      there (inl e) = inl e
      there (inr r) = inr (subst (λ (q : ℕ). ReachesPast G (at G h) x (at G q)) (sym (alone u r.source r.among)) r.way)

      back : InPart G (at G h) (at G u) x → InParts G h (u ∷ []) x
      back (inl e) = inl e
      back (inr r) = inr (record { source = u; among = from_in (u ∷ []) u (inl refl); way = r })

  pub has_part : (h u : ℕ) → h < count_of G → u < count_of G → (found : List ℕ) (small : Bool) → HasSearched small rows h (u ∷ []) found → HasPart small G h u found
  has_part h u lh lu found small a = searched (InPart G (at G h) (at G u)) h (u ∷ []) lh (λ v c. subst (λ (q : ℕ). q < count_of G) (alone u v c) lu) (one_part h u) found small a

  -- of all closed edges to a word, of which there is one
  pub has_body : (h : ℕ) (us : List ℕ) → h < count_of G → IsRowOf G (IsClosed G) h us → IsHeader G (at G h) → (found : List ℕ) (small : Bool) → HasSearched small rows h us found → HasBody small G (at G h) found
  has_body h us lh c header found small a = searched (InBody G (at G h)) h us lh (λ u m. (c.each u m).0) (λ x. (there x, back x)) found small a
    where
      there : (x : ℕ) → InParts G h us x → InBody G (at G h) x
      there x (inl e) = record { source = header.source; closed = header.closed; part = inl e }
      there x (inr r) = record { source = at G r.source; closed = (c.each r.source r.among).1; part = inr r.way }

      back : (x : ℕ) → InBody G (at G h) x → InParts G h us x
      back x b = by b.part
        where
          by : InPart G (at G h) b.source x → InParts G h us x
          by (inl e) = inl e
          by (inr r) =
              let p = place_of_source G b.source (at G h) b.closed.edge in
              inr (record { source = p.place; among = c.every p.place p.within (subst (IsClosed G (at G h)) (sym p.is) b.closed); way = subst (ReachesPast G (at G h) x) (sym p.is) r })

pub part_small : (G : Graph) (h u : ℕ) (found : List ℕ) (small : Bool) → small ≡ true → HasPart small G h u found → IsPart G h u found
part_small G h u found true e a = a
part_small G h u found false e a = absurd (false≢true e)

pub contains_map : (f : ℕ → ℕ) (xs : List ℕ) (i y : ℕ) → Contains xs i → f i ≡ y → Contains (map f xs) y
contains_map f xs i y c e =
    let n = length-map xs f in
    let l = c.1 in
    let is : get_or (map f xs) c.0 0 ≡ y = get_or-map f xs c.0 i 0 c.1 ∙ ap f c.2 ∙ e in
    subst (Contains (map f xs)) is (Contains-get_or (map f xs) c.0 0 (omega arith))

module _ (G : Graph) (up : IsInOrder G) (flags : List Bool) (f : AreFlags G (Contains G.starts) flags) (h u : ℕ) (lh : h < count_of G) (found : List ℕ) (p : IsPart G h u found) where
  pub closed_from_entry : Leads G (at G u) (at G h) → IsOnlyEntry flags found h → IsClosed G (at G h) (at G u)
  closed_from_entry edge only = record { edge = edge; word = word_at G h lh; small = record { members = map (at G) found; bound = subst (λ n. n ≤ 256) (sym (length-map found (at G))) p.0; all = all }; entry = entry }
    where
      all : (x : ℕ) → InPart G (at G h) (at G u) x → Contains (map (at G) found) x
      all x q = let a = p.1.every x q in contains_map (at G) found a.place x a.among a.is

      entry : (x : ℕ) → InPart G (at G h) (at G u) x → Contains G.starts x → x ≡ at G h
      entry x q start =
          let a = p.1.every x q in
          let l = (p.1.each a.place a.among).0 in
          sym a.is ∙ ap (at G) (only.same a.place a.among ((f.each a.place l).1 (subst (Contains G.starts) (sym a.is) start)))

  pub entry_from_closed : IsClosed G (at G h) (at G u) → IsOnlyEntry flags found h
  entry_from_closed c = record { same = same }
    where
      same : (i : ℕ) → Contains found i → get_or flags i false ≡ true → i ≡ h
      same i m t =
          let l = (p.1.each i m).0 in
          same_place (addresses G) up i h l lh (c.entry (at G i) (p.1.each i m).1 ((f.each i l).0 t))

-- the places before one and that one are all
pub entry_all : (flags : List Bool) (found : List ℕ) (h n : ℕ) → length found ≤ n → ((k : ℕ) → k < n → get_or flags (get_or found k 0) false ≡ true → get_or found k 0 ≡ h) → IsOnlyEntry flags found h
entry_all flags found h n l f = record { same = same }
  where
    same : (i : ℕ) → Contains found i → get_or flags i false ≡ true → i ≡ h
    same i c t =
        let m = c.1 in
        let is : get_or found c.0 0 ≡ i = get_or_default found c.0 0 i c.1 ∙ c.2 in
        sym is ∙ f c.0 (omega arith) (ap (λ q. get_or flags q false) is ∙ t)
