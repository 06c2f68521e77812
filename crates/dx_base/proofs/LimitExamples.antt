-- The limits are numbers to a clause: each of them, as the manual has it.
use Rattle.std.proofs.Common.{◌≡◌, refl}
use Rattle.dx_base.specs.declared.limits.TheConstants.{TEXT_BYTES, DATA_BYTES, TABLES, COLUMNS, DEPTH, LINES, OCCURRENCES, VARIANTS, WAYS, CANDIDATES, RULES, SOURCE_CELLS, TARGET_CELLS, FROZEN_CELLS, QUERY_BYTES, QUERY_ATOMS, ANSWER_CELLS, GIVEN_CELLS}

text_bytes : TEXT_BYTES ≡ 1048576
text_bytes = refl

data_bytes : DATA_BYTES ≡ 67108864
data_bytes = refl

tables : TABLES ≡ 64
tables = refl

columns : COLUMNS ≡ 64
columns = refl

depth : DEPTH ≡ 16
depth = refl

lines : LINES ≡ 512
lines = refl

occurrences : OCCURRENCES ≡ 64
occurrences = refl

variants : VARIANTS ≡ 256
variants = refl

ways : WAYS ≡ 64
ways = refl

candidates : CANDIDATES ≡ 1024
candidates = refl

rules : RULES ≡ 256
rules = refl

source_cells : SOURCE_CELLS ≡ 4000000
source_cells = refl

target_cells : TARGET_CELLS ≡ 4000000
target_cells = refl

frozen_cells : FROZEN_CELLS ≡ 4000000
frozen_cells = refl

query_bytes : QUERY_BYTES ≡ 65536
query_bytes = refl

query_atoms : QUERY_ATOMS ≡ 64
query_atoms = refl

answer_cells : ANSWER_CELLS ≡ 4000000
answer_cells = refl

given_cells : GIVEN_CELLS ≡ 1000000
given_cells = refl
