-- UTF-8 without the byte order mark (Encoding Standard, section 6).
use Rattle.std.specs.Prelude.{ℕ, ◌==◌, ◌&&◌, if◌then◌else◌, List, ◌∷◌}

-- the bytes without EF BB BF in front
abbrev pub without_byte_order_mark : List ℕ → List ℕ
without_byte_order_mark (a ∷ b ∷ c ∷ text) = if a == 239 && (b == 187 && c == 191) then text else a ∷ b ∷ c ∷ text
without_byte_order_mark bytes = bytes
