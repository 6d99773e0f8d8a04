-- An executable has one graph.
use Rattle.std.proofs.Common.{◌≡◌, inl, inr, ℕ, List, [], ◌∷◌, length, All, refl, sym, ap, subst, ◌∙◌, arith}
use Rattle.std.proofs.lemmas.List.Elements.{All-head, All-tail}
use Rattle.std.proofs.lemmas.Option.{same_Some}
use Rattle.elf_image.specs.declared.image.Elf.{Elf}
use Rattle.loop_data.specs.declared.graph.Word.{Word}
use Rattle.loop_data.specs.declared.graph.Graph.{Graph}
use Rattle.loop_data.specs.Code.{word_at}
use Rattle.loop_data.specs.Targets.{Targets}
use Rattle.loop_data.proofs.Rising.{same_members}
use Rattle.loop_data.specs.Graphs.{IsWordOf, IsGraph}
use Rattle.loop_data.specs.Paths.{addresses_of}
use Rattle.loop_data.specs.Reaching.{HasTargets}

same_targets : (elf : Elf) (a : ℕ) (f g : Targets) → HasTargets elf a f → HasTargets elf a g → f ≡ g
same_targets elf a f g (inl p) (inl q) = p.1 ∙ sym q.1
same_targets elf a f g (inl p) (inr q) = absurd (q.0 p.0)
same_targets elf a f g (inr p) (inl q) = absurd (p.0 q.0)
same_targets elf a f g (inr p) (inr q) = p.1 ∙ sym q.1

same_word : (elf : Elf) (u v : Word) → IsWordOf elf u → IsWordOf elf v → u.at ≡ v.at → u ≡ v
same_word elf u v p q at =
    let bits : u.bits ≡ v.bits = same_Some u.bits v.bits (sym p.bits ∙ ap (word_at elf) at ∙ q.bits) in
    let targets : p.targets ≡ q.targets = same_targets elf v.at p.targets q.targets (subst (λ a. HasTargets elf a p.targets) at p.leads) q.leads in
    let steps : u.steps.items ≡ v.steps.items = p.steps ∙ ap (λ (t : Targets). t.steps) targets ∙ sym q.steps in
    λ j. record { at = at j; bits = bits j; steps = record { items = steps j } }

same_words : (elf : Elf) (us vs : List Word) → All (IsWordOf elf) us → All (IsWordOf elf) vs → addresses_of us ≡ addresses_of vs → us ≡ vs
same_words elf [] [] p q e = refl
same_words elf [] (v ∷ vs) p q e = absurd (let l = ap length e in omega arith)
same_words elf (u ∷ us) [] p q e = absurd (let l = ap length e in omega arith)
same_words elf (u ∷ us) (v ∷ vs) p q e =
    let at : u.at ≡ v.at = cc e in
    let later : addresses_of us ≡ addresses_of vs = cc e in
    let first = same_word elf u v (All-head (IsWordOf elf) u us p) (All-head (IsWordOf elf) v vs q) at in
    let rest = same_words elf us vs (All-tail (IsWordOf elf) u us p) (All-tail (IsWordOf elf) v vs q) later in
    λ j. first j ∷ rest j

pub same_graphs : (elf : Elf) (g h : Graph) → IsGraph elf g → IsGraph elf h → g ≡ h
same_graphs elf g h p q =
    let gs = addresses_of g.words in
    let hs = addresses_of h.words in
    let at = same_members gs hs p.ordered q.ordered
    (λ a m. (q.reached a).1 ((p.reached a).0 m)) (λ a m. (p.reached a).1 ((q.reached a).0 m)) in
    let words = same_words elf g.words h.words p.words q.words at in
    let starts = same_members g.starts h.starts p.starts_ordered q.starts_ordered
    (λ a m. (q.starts a).1 ((p.starts a).0 m)) (λ a m. (p.starts a).1 ((q.starts a).0 m)) in
    λ j. record { words = words j; starts = starts j }
