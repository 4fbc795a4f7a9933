-- How a refusal prints.
use Rattle.std.specs.Prelude.{ℕ, List, ◌++◌, codes}
use Rattle.cl_model.specs.{declared.refusal.{Code.Code, Refusal.Refusal}, Place.place_text}
use Rattle.cl_model.specs.declared.refusal.Code.TheVariants as code

-- a code as it prints
abbrev pub code_text : Code → List ℕ
code_text code.M1 = codes "M1"
code_text code.M2 = codes "M2"
code_text code.M3 = codes "M3"
code_text code.M4 = codes "M4"
code_text code.M5 = codes "M5"
code_text code.M6 = codes "M6"
code_text code.M7 = codes "M7"
code_text code.M8 = codes "M8"
code_text code.M9 = codes "M9"
code_text code.M10 = codes "M10"
code_text code.M20 = codes "M20"
code_text code.M21 = codes "M21"
code_text code.M22 = codes "M22"
code_text code.M23 = codes "M23"
code_text code.M24 = codes "M24"
code_text code.M25 = codes "M25"
code_text code.M26 = codes "M26"
code_text code.M27 = codes "M27"
code_text code.M28 = codes "M28"
code_text code.M29 = codes "M29"
code_text code.M30 = codes "M30"
code_text code.M31 = codes "M31"
code_text code.M32 = codes "M32"
code_text code.M33 = codes "M33"
code_text code.M34 = codes "M34"
code_text code.M35 = codes "M35"
code_text code.M36 = codes "M36"
code_text code.M37 = codes "M37"
code_text code.M38 = codes "M38"
code_text code.M39 = codes "M39"
code_text code.M40 = codes "M40"
code_text code.M41 = codes "M41"
code_text code.M42 = codes "M42"
code_text code.M43 = codes "M43"
code_text code.M44 = codes "M44"
code_text code.M45 = codes "M45"
code_text code.M46 = codes "M46"
code_text code.M47 = codes "M47"
code_text code.E1 = codes "E1"
code_text code.E2 = codes "E2"
code_text code.E3 = codes "E3"

-- the code, a space and the place
abbrev pub refusal_text : Refusal → List ℕ
refusal_text r = code_text r.code ++ codes " " ++ place_text r.place
