use Rattle.std.proofs.Common.{◌≡◌, ◌+◌, ◌*◌, ◌-◌, ◌<◌, ◌++◌, ◌∷◌, [], List, suc, ap, sym, ◌∙◌, ℕ, arith}
use Rattle.std.proofs.lemmas.List.{append_assoc}
use Rattle.elf_image.specs.declared.header.ProgramHeader.{ProgramHeader}
use Rattle.elf_image.specs.Header.{program_header, program_headers_from}
use Rattle.elf_image.proofs.reading.read_headers.Goals as goal

pub read-requires : goal.read-requires
read-requires c =
    let i : c.loop-index.index < c.args.file.now.phnum = omega arith in
    c.requires.within c.loop-index.index i

pub overflow_add-place : goal.overflow_add-place
overflow_add-place c =
    let i : c.loop-index.index < c.args.file.now.phnum = omega arith in
    let within = c.requires.within c.loop-index.index i in
    let short = c.requires.short in
    omega arith

-- one header more
one_more : (bytes : List ℕ) (place n i : ℕ) (read more all : List ProgramHeader) (h : ProgramHeader) → i < n → h ≡ program_header bytes (place + 56 * i) → more ≡ read ++ h ∷ []
    → read ++ program_headers_from bytes (place + 56 * i) (n - i) ≡ all → more ++ program_headers_from bytes (place + 56 * (i + 1)) (n - (i + 1)) ≡ all
one_more bytes place n i read more all h within here pushed before =
    let left : n - i ≡ suc (n - (i + 1)) = omega arith in
    let next : place + 56 * (i + 1) ≡ place + 56 * i + 56 = omega arith in
    let rest : List ProgramHeader = program_headers_from bytes (place + 56 * i + 56) (n - (i + 1)) in
    rw (pushed, next, here) (append_assoc read (program_header bytes (place + 56 * i) ∷ []) rest ∙ ap (λ (k : ℕ). read ++ program_headers_from bytes (place + 56 * i) k) (sym left) ∙ before)

pub loop-index-preserved : goal.loop-index-preserved
loop-index-preserved c =
    let i : c.loop-index.index < c.args.file.now.phnum = omega arith in
    one_more c.args.bytes.now c.args.file.now.phoff c.args.file.now.phnum c.loop-index.index c.loop-index.headers.items c.push.new.self.items _ c.read.result i c.read.ensures c.in_ok-push.ensures.items c.loop-index.invariant
