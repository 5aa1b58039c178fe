-- The outputs of instruments that a register captures, each on a line of its own, from its left bit on (IEEE
-- 1687-2014, ICL: CaptureSource).
use Rattle.std.specs.Prelude.{ℕ, zero, suc, ◌==◌, ◌&&◌, Bool, false, cond, List, [], ◌++◌, codes, get_or}
use Rattle.std.specs.Prelude.{length, map}
use Rattle.net_graph.specs.declared.net.Net.{Net}
use Rattle.net_graph.specs.declared.net.Sig.{Sig}
use Rattle.net_graph.specs.declared.net.Sig.TheVariants.{Absent, Zero, One, Bit, Out}
use Rattle.net_list.specs.Outputs.{output_path}

-- what the bits of a register capture, position 0 first
abbrev pub signals_of : Net → ℕ → List Sig
signals_of net r = get_or (map (λ reg. reg.capture.items) net.regs.items) r []

-- whether two signals are bits of one output
abbrev pub is_same_output : Sig → Sig → Bool
is_same_output Absent other = false
is_same_output Zero other = false
is_same_output One other = false
is_same_output (Bit b v) other = false
is_same_output (Out i p q v) Absent = false
is_same_output (Out i p q v) Zero = false
is_same_output (Out i p q v) One = false
is_same_output (Out i p q v) (Bit b w) = false
is_same_output (Out i p q v) (Out j o r w) = (i == j) && (p == o)

-- whether the position at its left captures the same output
abbrev pub is_repeated : List Sig → ℕ → Bool
is_repeated signals p = is_same_output (get_or signals (suc p) Absent) (get_or signals p Absent)

abbrev pub output_line : Net → Sig → List ℕ
output_line net Absent = []
output_line net Zero = []
output_line net One = []
output_line net (Bit b v) = []
output_line net (Out i p q v) = codes "\ncaptures " ++ output_path net i p

abbrev pub line_unless : Net → Bool → Sig → List ℕ
line_unless net repeated signal = cond repeated [] (output_line net signal)

abbrev pub signal_at : List Sig → ℕ → Sig
signal_at signals p = get_or signals p Absent

abbrev pub capture_at : Net → List Sig → ℕ → List ℕ
capture_at net signals p = line_unless net (is_repeated signals p) (signal_at signals p)

-- the lowest n positions, the highest first
abbrev pub captures : Net → List Sig → ℕ → List ℕ
captures net signals zero = []
captures net signals (suc n) = capture_at net signals n ++ captures net signals n

abbrev pub captures_text : Net → ℕ → List ℕ
captures_text net r = captures net (signals_of net r) (length (signals_of net r))
