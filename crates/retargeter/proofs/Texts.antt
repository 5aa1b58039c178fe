-- The texts of scans as the pieces that are written.
use Rattle.std.proofs.Common.{◌≡◌, ℕ, Bool, List, [], ◌∷◌, ◌++◌, Some, length, ap, ◌∙◌, append_assoc}
use Rattle.std.proofs.Common.{append-nil, decimal}
use Rattle.std.specs.Prelude.{codes}
use Rattle.svf_writer.specs.SeenCommands.{SDR}
use Rattle.svf_writer.specs.Written.{part, text_of}
use Rattle.retargeter.specs.Packed.{quiet_scan, comparing_scan}

-- a scan after its length
after_length : (n m : ℕ) (rest : List ℕ) → n ≡ m
    → (codes "SDR " ++ (decimal n ++ [])) ++ rest ≡ codes "SDR " ++ (decimal m ++ rest)
after_length n m rest e =
    ap (λ (front : List ℕ). (codes "SDR " ++ front) ++ rest) (append-nil (decimal n))
    ∙ append_assoc (codes "SDR ") (decimal n) rest
    ∙ ap (λ k. codes "SDR " ++ (decimal k ++ rest)) e

pub quiet_is : (n : ℕ) (tdi : List Bool) → n ≡ length tdi → (codes "SDR " ++ (decimal n ++ []))
    ++ (part (codes " TDI (") (Some tdi) ++ (codes ";" ++ 10 ∷ [])) ≡ text_of (SDR (quiet_scan tdi))
quiet_is n tdi e = after_length n (length tdi) (part (codes " TDI (") (Some tdi) ++ (codes ";" ++ 10 ∷ [])) e

pub comparing_is : (n : ℕ) (tdi tdo mask : List Bool) → n ≡ length tdi
    → (codes "SDR " ++ (decimal n ++ [])) ++ (part (codes " TDI (") (Some tdi)
    ++ (part (codes " TDO (") (Some tdo) ++ (part (codes " MASK (") (Some mask) ++ (codes ";" ++ 10 ∷ []))))
    ≡ text_of (SDR (comparing_scan tdi tdo mask))
comparing_is n tdi tdo mask e =
    after_length n (length tdi) (part (codes " TDI (") (Some tdi) ++ (part (codes " TDO (") (Some tdo)
    ++ (part (codes " MASK (") (Some mask) ++ (codes ";" ++ 10 ∷ [])))) e
