-- The words of added code: those of RV64IM, and seven instructions on the opcode custom-0. These have the
-- fields of the form R with function number 0 in the upper bits; a field that an instruction does not name
-- is 0, and a slot stands in the field of rs2.
use Rattle.std.specs.Prelude.{ℕ, ◌≡◌, ◌==◌, if◌then◌else◌, ◌&&◌, Option, Some, None}
use Rattle.rv64_decode.specs.Fields.{opcode, rd_of, funct3, rs1_of, rs2_of, funct7}
use Rattle.rv64_decode.specs.Table.{decoded, Means, IsR}
use Rattle.rv64_decode.specs.declared.instr.Instr.{Instr}
use Rattle.rv64_decode.specs.declared.xinstr.XInstr.{XInstr}
use Rattle.rv64_decode.specs.declared.xinstr.XInstr.TheVariants.{Base, Put, Get, Par, Join, Back, Id, Harts}

-- the word is that of an instruction of custom-0, with these fields
abbrev pub IsCustom : ℕ → ℕ → ℕ → ℕ → ℕ → Type 0
IsCustom three rd rs1 rs2 w = IsR 0x0B three 0 w × (rd_of w ≡ rd) × (rs1_of w ≡ rs1) × (rs2_of w ≡ rs2)

-- the word stands for the instruction of added code
abbrev pub MeansX : ℕ → XInstr → Type 0
MeansX w (Base i) = Means w i
MeansX w (Put slot rs1) = IsCustom 0 0 rs1 slot w
MeansX w (Get rd slot) = IsCustom 1 rd 0 slot w
MeansX w Par = IsCustom 2 0 0 0 w
MeansX w Join = IsCustom 3 0 0 0 w
MeansX w Back = IsCustom 4 0 0 0 w
MeansX w (Id rd) = IsCustom 5 rd 0 0 w
MeansX w (Harts rd) = IsCustom 6 rd 0 0 w

-- the instruction of a word of custom-0, by its function number
abbrev pub added_row : ℕ → Option XInstr
added_row w =
    if funct3 w == 0 && rd_of w == 0 then Some (Put (rs2_of w) (rs1_of w)) else
    if funct3 w == 1 && rs1_of w == 0 then Some (Get (rd_of w) (rs2_of w)) else
    if funct3 w == 2 && rd_of w == 0 && rs1_of w == 0 && rs2_of w == 0 then Some Par else
    if funct3 w == 3 && rd_of w == 0 && rs1_of w == 0 && rs2_of w == 0 then Some Join else
    if funct3 w == 4 && rd_of w == 0 && rs1_of w == 0 && rs2_of w == 0 then Some Back else
    if funct3 w == 5 && rs1_of w == 0 && rs2_of w == 0 then Some (Id (rd_of w)) else
    if funct3 w == 6 && rs1_of w == 0 && rs2_of w == 0 then Some (Harts (rd_of w)) else
    None

-- the instruction of RV64IM, if there is one
abbrev pub with_base : Option Instr → Option XInstr
with_base None = None
with_base (Some i) = Some (Base i)

-- the instruction of added code that a word stands for; a word of no row stands for none
unfoldable pub decoded_x : ℕ → Option XInstr
decoded_x w = if opcode w == 0x0B && funct7 w == 0 then added_row w else with_base (decoded w)
