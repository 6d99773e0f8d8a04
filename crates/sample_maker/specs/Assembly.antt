-- Instruction words from their fields: the manual's "Base Instruction Formats" and "Immediate Encoding
-- Variants", with opcode and function numbers from its "RV32/64G Instruction Set Listings".
use Rattle.std.specs.Prelude.{ℕ, suc, ◌+◌, ◌-◌, ◌*◌, ◌/◌, ◌%◌, ◌^◌, List, [], ◌∷◌, ℤ, pos, negsuc}
use Rattle.rv64_decode.specs.Fields.{signed}

-- the numbers of registers, by their names in the calling convention
abbrev pub x0 : ℕ
x0 = 0

abbrev pub sp : ℕ
sp = 2

abbrev pub t0 : ℕ
t0 = 5

abbrev pub t1 : ℕ
t1 = 6

abbrev pub t2 : ℕ
t2 = 7

abbrev pub s1 : ℕ
s1 = 9

abbrev pub a0 : ℕ
a0 = 10

abbrev pub a1 : ℕ
a1 = 11

abbrev pub a2 : ℕ
a2 = 12

abbrev pub a3 : ℕ
a3 = 13

abbrev pub a4 : ℕ
a4 = 14

abbrev pub a5 : ℕ
a5 = 15

abbrev pub a6 : ℕ
a6 = 16

abbrev pub a7 : ℕ
a7 = 17

abbrev pub s2 : ℕ
s2 = 18

abbrev pub s3 : ℕ
s3 = 19

abbrev pub t3 : ℕ
t3 = 28

abbrev pub t4 : ℕ
t4 = 29

abbrev pub t5 : ℕ
t5 = 30

abbrev pub t6 : ℕ
t6 = 31

-- a negative number, for a count of at least 1
abbrev pub minus : ℕ → ℤ
minus n = negsuc (n - 1)

-- the offset of a branch to the word so many words before it
abbrev pub back : ℕ → ℤ
back count = minus (4 * count)

-- a signed number in k bits
abbrev pub bits : ℕ → ℤ → ℕ
bits k (pos n) = n
bits k (negsuc n) = 2 ^ k - suc n

-- form R: funct7, rs2, rs1, funct3, rd and opcode stand at bits 25, 20, 15, 12, 7 and 0
abbrev pub r_form : (f7 rs2 rs1 f3 rd op : ℕ) → ℕ
r_form f7 rs2 rs1 f3 rd op = f7 * 2 ^ 25 + rs2 * 2 ^ 20 + rs1 * 2 ^ 15 + f3 * 2 ^ 12 + rd * 2 ^ 7 + op

-- form I: the 12 bits of the immediate stand at bit 20
abbrev pub i_form : (imm rs1 f3 rd op : ℕ) → ℕ
i_form imm rs1 f3 rd op = imm * 2 ^ 20 + rs1 * 2 ^ 15 + f3 * 2 ^ 12 + rd * 2 ^ 7 + op

-- form S: bits 11:5 of the immediate stand at bit 25, and bits 4:0 at bit 7
abbrev pub s_form : (imm rs2 rs1 f3 op : ℕ) → ℕ
s_form imm rs2 rs1 f3 op =
    imm / 2 ^ 5 * 2 ^ 25 + rs2 * 2 ^ 20 + rs1 * 2 ^ 15 + f3 * 2 ^ 12 + imm % 2 ^ 5 * 2 ^ 7 + op

-- form B: bit 12 of the immediate stands at bit 31, bits 10:5 at bit 25, bits 4:1 at bit 8, and bit 11 at bit 7
abbrev pub b_form : (imm rs2 rs1 f3 op : ℕ) → ℕ
b_form imm rs2 rs1 f3 op =
    imm / 2 ^ 12 * 2 ^ 31 + imm / 2 ^ 5 % 2 ^ 6 * 2 ^ 25 + rs2 * 2 ^ 20 + rs1 * 2 ^ 15 + f3 * 2 ^ 12
    + imm / 2 % 2 ^ 4 * 2 ^ 8 + imm / 2 ^ 11 % 2 * 2 ^ 7 + op

-- form U: the upper 20 bits of the immediate stand at bit 12
abbrev pub u_form : (upper rd op : ℕ) → ℕ
u_form upper rd op = upper * 2 ^ 12 + rd * 2 ^ 7 + op

abbrev pub add : (rd rs1 rs2 : ℕ) → ℕ
add rd rs1 rs2 = r_form 0 rs2 rs1 0 rd 0x33

abbrev pub sub : (rd rs1 rs2 : ℕ) → ℕ
sub rd rs1 rs2 = r_form 0x20 rs2 rs1 0 rd 0x33

abbrev pub addi : (rd rs1 : ℕ) → ℤ → ℕ
addi rd rs1 imm = i_form (bits 12 imm) rs1 0 rd 0x13

abbrev pub addiw : (rd rs1 : ℕ) → ℤ → ℕ
addiw rd rs1 imm = i_form (bits 12 imm) rs1 0 rd 0x1B

abbrev pub xori : (rd rs1 : ℕ) → ℤ → ℕ
xori rd rs1 imm = i_form (bits 12 imm) rs1 4 rd 0x13

-- the loads and stores have the order of assembly: ld rd, imm(rs1), and sd rs2, imm(rs1)
abbrev pub ld : (rd : ℕ) → ℤ → (rs1 : ℕ) → ℕ
ld rd imm rs1 = i_form (bits 12 imm) rs1 3 rd 0x03

abbrev pub lbu : (rd : ℕ) → ℤ → (rs1 : ℕ) → ℕ
lbu rd imm rs1 = i_form (bits 12 imm) rs1 4 rd 0x03

abbrev pub sd : (rs2 : ℕ) → ℤ → (rs1 : ℕ) → ℕ
sd rs2 imm rs1 = s_form (bits 12 imm) rs2 rs1 3 0x23

abbrev pub sb : (rs2 : ℕ) → ℤ → (rs1 : ℕ) → ℕ
sb rs2 imm rs1 = s_form (bits 12 imm) rs2 rs1 0 0x23

abbrev pub bne : (rs1 rs2 : ℕ) → ℤ → ℕ
bne rs1 rs2 offset = b_form (bits 13 offset) rs2 rs1 1 0x63

abbrev pub lui : (rd upper : ℕ) → ℕ
lui rd upper = u_form upper rd 0x37

abbrev pub ecall : ℕ
ecall = 0x73

-- a register as a copy of another
abbrev pub mv : (rd rs1 : ℕ) → ℕ
mv rd rs1 = addi rd rs1 (pos 0)

-- a register set to a number below 2 ^ 11, in one word
abbrev pub li : (rd n : ℕ) → ℕ
li rd n = addi rd x0 (pos n)

-- a register set to a number below 2 ^ 31 - 2 ^ 11, in two words: addiw adds the low 12 bits as a signed
-- number, so lui gives the nearest multiple of 2 ^ 12
abbrev pub li2 : (rd n : ℕ) → List ℕ
li2 rd n = lui rd ((n + 2 ^ 11) / 2 ^ 12) ∷ addiw rd rd (signed 12 (n % 2 ^ 12)) ∷ []
