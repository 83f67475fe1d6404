-- Bytes that are appended one after the other, grouped to the left and to the right.
use Rattle.std.proofs.Common.{◌≡◌, ℕ, List, ◌++◌}
use Rattle.std.proofs.lemmas.List.{append_assoc}

pub four_appended : (o a b c d : List ℕ) → o ++ a ++ b ++ c ++ d ≡ o ++ (a ++ b ++ c ++ d)
four_appended o a b c d = simp append_assoc

pub cert_info_grouped : (a b c1 c2 d1 d2 e1 e2 e3 e4 f g1 g2 h1 h2 rest : List ℕ)
    → a ++ b ++ (c1 ++ c2) ++ (d1 ++ d2) ++ (e1 ++ e2 ++ e3 ++ e4) ++ f ++ (g1 ++ g2) ++ (h1 ++ h2) ++ rest
    ≡ a ++ (b ++ (c1 ++ (c2 ++ (d1 ++ (d2 ++ (e1 ++ (e2 ++ (e3 ++ (e4 ++ (f ++ (g1 ++ (g2 ++ (h1 ++ (h2 ++ rest))))))))))))))
cert_info_grouped a b c1 c2 d1 d2 e1 e2 e3 e4 f g1 g2 h1 h2 rest = simp append_assoc

pub rsa_grouped : (a b c d e1 e2 rest : List ℕ)
    → a ++ b ++ c ++ d ++ (e1 ++ e2) ++ rest ≡ a ++ (b ++ (c ++ (d ++ (e1 ++ (e2 ++ rest)))))
rsa_grouped a b c d e1 e2 rest = simp append_assoc

pub ecc_grouped : (a b c d e1 e2 f1 f2 rest : List ℕ)
    → a ++ b ++ c ++ d ++ (e1 ++ e2) ++ (f1 ++ f2) ++ rest
    ≡ a ++ (b ++ (c ++ (d ++ (e1 ++ (e2 ++ (f1 ++ (f2 ++ rest)))))))
ecc_grouped a b c d e1 e2 f1 f2 rest = simp append_assoc

pub pub_area_grouped : (a b c d1 d2 e rest : List ℕ)
    → a ++ b ++ c ++ (d1 ++ d2) ++ e ++ rest ≡ a ++ (b ++ (c ++ (d1 ++ (d2 ++ (e ++ rest)))))
pub_area_grouped a b c d1 d2 e rest = simp append_assoc
