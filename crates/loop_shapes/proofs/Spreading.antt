-- Flags of words that are reached from start words.
use Rattle.std.proofs.Common.{◌≡◌, ℕ, ◌<◌, ◌⊎◌, inl, inr, Bool, true, false, List, length, get_or, sym, ◌∙◌, subst, arith}
use Rattle.std.specs.Bool.{⊤}
use Rattle.std.specs.List.{Contains}
use Rattle.loop_data.specs.declared.graph.Graph.{Graph}
use Rattle.loop_data.specs.Paths.{addresses, Leads}
use Rattle.loop_shapes.specs.Places.{AreFlags, Marked, count_of, at}
use Rattle.loop_data.specs.Starts.{FromStart, AreFromStarts}
use Rattle.loop_shapes.specs.StartFlags.{AreFlagsFromStarts}
use Rattle.loop_data.proofs.Ways.{stop, further}
use Rattle.loop_shapes.proofs.Parts.{place_of_word}

pub spread_start : (G : Graph) (flags : List Bool) → AreFlags G (Contains G.starts) flags → AreFlagsFromStarts G flags
spread_start G flags f = record { count = f.count; each = λ i l t. record { start = at G i; starts = (f.each i l).0 t; reaches = stop (Leads G) (λ _. ⊤) (at G i) tt } }

pub spread_more : (G : Graph) (x y : ℕ) (old new : List Bool) → FromStart G x → Leads G x y → AreFlagsFromStarts G old → Marked (addresses G) y old new → AreFlagsFromStarts G new
spread_more G x y old new s lead a m = record { count = m.count ∙ a.count; each = λ i l t. by i l ((m.each i l).0 t) }
  where
    by : (i : ℕ) → i < count_of G → (get_or old i false ≡ true) ⊎ (get_or (addresses G) i 0 ≡ y) → FromStart G (at G i)
    by i l (inl t) = a.each i l t
    by i l (inr e) = subst (FromStart G) (sym e) (record { start = s.start; starts = s.starts; reaches = further s.start x y s.reaches lead tt tt })

pub spread_whole : (G : Graph) (flags : List Bool) → AreFlagsFromStarts G flags → ((i : ℕ) → i < length flags → get_or flags i false ≡ true) → AreFromStarts G
spread_whole G flags a f x w =
    let p = place_of_word G x w in
    let n = a.count in
    let l = p.within in
    subst (FromStart G) p.is (a.each p.place p.within (f p.place (omega arith)))
