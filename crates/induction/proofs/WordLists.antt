-- What is known at the words of a loop without cells.
use Rattle.std.proofs.Common.{◌≡◌, ℕ, ◌<◌, List, length, get_or, ap, sym, ◌∙◌, subst, arith}
use Rattle.std.specs.List.Sorted.{IsStrictlyIncreasing}
use Rattle.std.proofs.lemmas.List.{get_or_default, length-map}
use Rattle.loop_data.specs.declared.graph.Graph.{Graph}
use Rattle.loop_data.specs.declared.flow.Flow.{Flow}
use Rattle.loop_data.specs.declared.shape.Level.{Level}
use Rattle.loop_data.specs.declared.values.Values.{Values}
use Rattle.loop_data.specs.Nests.{In}
use Rattle.loop_data.specs.Locations.{CellMap}
use Rattle.loop_data.specs.LoopCode.{instr_among}
use Rattle.loop_data.specs.LoopWords.{AreNest}
use Rattle.loop_data.specs.Flows.{rows, AreRowsWithin, IsFlow}
use Rattle.loop_data.specs.Results.{AreFactsOf}
use Rattle.loop_data.proofs.FlowEdges.{listed_in}
use Rattle.induction.specs.declared.words.Words.{Words}
use Rattle.induction.specs.Masks.{has_bit, bit_after, AreMasks}
use Rattle.induction.specs.Words.{AreLoopWords}

pub rows_within : (G : Graph) (C : CellMap) (ls : List Level) (body : List ℕ) (f : Flow) → IsFlow G C ls body f → AreRowsWithin (rows f.sources.items)
rows_within G C ls body f flow j k c =
    let e = flow.sources.each j k c in
    let n = flow.sources.count in
    let l = e.0 in
    omega arith

-- the loop at a place is one of the levels
pub rises_at : (G : Graph) (ls : List Level) (level : ℕ) (l : Level) → AreNest G ls → level < length ls → l ≡ get_or ls level l → IsStrictlyIncreasing l.body
rises_at G ls level l nest within e = nest.ordered l (subst (λ (xs : List Level). In xs l) nest.are (listed_in ls level l within (sym e)))

pub same_level : (ls : List Level) (level : ℕ) (l m : Level) → level < length ls → l ≡ get_or ls level l → get_or ls level m ≡ m → l ≡ m
same_level ls level l m within e f = e ∙ get_or_default ls level l m within ∙ f

-- what is known at the words of a loop, put together
pub words_are : (G : Graph) (C : CellMap) (ls : List Level) (level : ℕ) (l : Level) (w : Words) → get_or ls level l ≡ l → IsFlow G C ls l.body w.flow → AreFactsOf G ls C level w.points.items
    → AreMasks l.header l.body w.flow (rows w.flow.sources.items) w.masks.items
    → ((p : ℕ) → p < length l.body → get_or l.body p 0 ≡ l.back → (r : ℕ) → r < 48 → has_bit w.always r ≡ bit_after w.flow w.masks.items p r)
    → AreLoopWords G C ls l w
words_are G C ls level l w e flow facts masks always = record {
  sized = record {
    instrs = ap length flow.instrs ∙ length-map l.body (instr_among G.words);
    uses = ap length flow.uses ∙ length-map l.body C.uses;
    points = sym (length-map w.points.items (λ (v : Values). v.at)) ∙ ap length (facts.words l e);
    masks = masks.count;
  };
  flow = flow;
  addresses = facts.words l e;
  facts = λ N of. facts.facts N l of e;
  masks = masks;
  always = always;
}
