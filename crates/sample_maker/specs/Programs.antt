-- The programs of the samples, and how many bytes of data each uses from 0x20000 on.
use Rattle.std.specs.Prelude.{ℕ, ◌+◌, ◌*◌, ◌/◌, List, [], ◌∷◌, ◌++◌, pos}
use Rattle.sample_maker.specs.declared.Kind.{Kind}
use Rattle.sample_maker.specs.declared.Kind.TheVariants.{Vadd, Stencil, Bytemap}
use Rattle.sample_maker.specs.Assembly.{a0, a1, a2, a3, a4, a5, a6, a7, add, addi, back, bne, ecall, lbu, ld, li, li2, lui, minus, mv, s1, s2, s3, sb, sd, sp, sub, t0, t1, t2, t3, t4, t5, t6, xori}

-- how each program ends: it sums up what one word loads at a0, which another moves on, until a0 is a3, writes
-- the sum in 8 bytes by call 64 to descriptor 1, and ends with code 0 by call 93
unfoldable pub summed : (load advance : ℕ) → List ℕ
summed load advance =
    li t2 0 ∷ load ∷ add t2 t2 a4 ∷ advance ∷ bne a0 a3 (back 3) ∷ sd t2 (minus 8) sp
    ∷ li a0 1 ∷ addi a1 sp (minus 8) ∷ li a2 8 ∷ li a7 64 ∷ ecall ∷ li a0 0 ∷ li a7 93 ∷ ecall ∷ []

-- n numbers t from 0 on and n numbers 2 * t, which are added one by one into a third array
unfoldable pub vadd_words : ℕ → List ℕ
vadd_words n =
    lui a1 0x20 ∷ li2 s1 (8 * n) ++ (
    add a2 a1 s1 ∷ add a0 a2 s1 ∷ mv a3 a2 ∷ li t0 0
    -- fills both arrays
    ∷ sd t0 (pos 0) a1 ∷ add t1 t0 t0 ∷ sd t1 (pos 0) a2 ∷ addi t0 t0 (pos 1)
    ∷ addi a1 a1 (pos 8) ∷ addi a2 a2 (pos 8) ∷ bne a1 a3 (back 6)
    ∷ sub a1 a1 s1 ∷ sub a2 a2 s1
    -- adds them
    ∷ ld a4 (pos 0) a1 ∷ ld a5 (pos 0) a2 ∷ add a4 a4 a5 ∷ sd a4 (pos 0) a0
    ∷ addi a1 a1 (pos 8) ∷ addi a2 a2 (pos 8) ∷ addi a0 a0 (pos 8) ∷ bne a1 a3 (back 7)
    ∷ sub a0 a0 s1 ∷ add a3 a0 s1 ∷ []
    ++ summed (ld a4 (pos 0) a0) (addi a0 a0 (pos 8)))

-- a square of n + 2 numbers a side, filled with 0, 1, 2 and on, and a second one behind it whose inner numbers
-- are each set to the sum of the four neighbours in the first
unfoldable pub stencil_words : ℕ → List ℕ
stencil_words n =
    lui a0 0x20 ∷ li2 s1 (8 * (n + 2)) ++ (li2 s2 (8 * (n + 2) * (n + 2)) ++ (
    add a1 a0 s2 ∷ mv a5 a0 ∷ li t0 0
    -- fills the first square
    ∷ sd t0 (pos 0) a5 ∷ addi t0 t0 (pos 1) ∷ addi a5 a5 (pos 8) ∷ bne a5 a1 (back 3)
    ∷ add a2 a0 s1 ∷ add a3 a1 s1 ∷ sub a4 a1 s1 ∷ []
    -- goes through the inner rows
    ++ (li2 t6 (8 * (n + 2)) ++ (
    addi a5 a2 (pos 8) ∷ addi a6 a3 (pos 8) ∷ add s3 a2 t6 ∷ addi s3 s3 (minus 8)
    -- goes through the inner numbers of a row
    ∷ sub t3 a5 t6 ∷ add t4 a5 t6 ∷ ld t0 (pos 0) t3 ∷ ld t1 (pos 0) t4 ∷ ld t2 (minus 8) a5 ∷ ld t5 (pos 8) a5
    ∷ add t0 t0 t1 ∷ add t2 t2 t5 ∷ add t0 t0 t2 ∷ sd t0 (pos 0) a6
    ∷ addi a5 a5 (pos 8) ∷ addi a6 a6 (pos 8) ∷ bne a5 s3 (back 12)
    -- the next row
    ∷ add a2 a2 t6 ∷ add a3 a3 t6 ∷ bne a2 a4 (back 21)
    ∷ mv a0 a1 ∷ add a3 a1 s2 ∷ []
    ++ summed (ld a4 (pos 0) a0) (addi a0 a0 (pos 8))))))

-- where the second row of bytes of `bytemap` starts: 3 bytes behind the first multiple of 8 that is not below n
abbrev pub second_row : ℕ → ℕ
second_row n = 8 * ((n + 7) / 8) + 3

-- n bytes 0, 1, 2 and on, and a second row of n bytes which are each set to one of the first with its lowest bit
-- turned
unfoldable pub bytemap_words : ℕ → List ℕ
bytemap_words n =
    lui a0 0x20 ∷ li2 s1 (second_row n) ++ (li2 s2 n ++ (
    add a1 a0 s1 ∷ add a3 a0 s2 ∷ li t0 0
    -- fills the first row
    ∷ sb t0 (pos 0) a0 ∷ addi t0 t0 (pos 1) ∷ addi a0 a0 (pos 1) ∷ bne a0 a3 (back 3)
    ∷ sub a0 a0 s2
    -- makes the second
    ∷ lbu a4 (pos 0) a0 ∷ xori a4 a4 (pos 1) ∷ sb a4 (pos 0) a1
    ∷ addi a0 a0 (pos 1) ∷ addi a1 a1 (pos 1) ∷ bne a0 a3 (back 5)
    ∷ sub a1 a1 s2 ∷ add a3 a1 s2 ∷ mv a0 a1 ∷ []
    ++ summed (lbu a4 (pos 0) a0) (addi a0 a0 (pos 1))))

-- the words of a sample's program
unfoldable pub words_of : Kind → ℕ → List ℕ
words_of Vadd n = vadd_words n
words_of Stencil n = stencil_words n
words_of Bytemap n = bytemap_words n

-- how many bytes of data it uses: three arrays, two squares, or two rows of bytes and the room between
unfoldable pub data_size : Kind → ℕ → ℕ
data_size Vadd n = 24 * n
data_size Stencil n = 16 * (n + 2) * (n + 2)
data_size Bytemap n = second_row n + n
