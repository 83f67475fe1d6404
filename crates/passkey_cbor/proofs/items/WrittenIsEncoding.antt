-- What is written encodes the data item, and decodes to it.
use Rattle.std.proofs.Common.{◌≡◌, ◌⊎◌, ℕ, ◌^◌, ◌<◌, ◌≤◌, pos, negsuc, nat_lt, IsTrue, ◌++◌, length, refl, arith, inl, inr}
use Rattle.std.proofs.lemmas.Bool.{cases_lt, lt-ltb, le-ltb}
use Rattle.std.proofs.lemmas.Bool.Decides.{nat_tests}
use Rattle.std.proofs.lemmas.List.{length-append}
use Rattle.std.proofs.Math.Seq.{take-append_seam}
use Rattle.passkey_cbor.specs.FloatParts.{FloatParts, IsFloat}
use Rattle.passkey_cbor.specs.Ranges.{IsSimple}
use Rattle.passkey_cbor.specs.Item.{Item, number, byte_string, text_string, array, map, tagged, boolean, null, simple, float, Items, no_items, item, Pairs, no_pairs, pair}
use Rattle.passkey_cbor.specs.Heads.{Heads, within, following, one, two, four, eight, FloatHeads}
use Rattle.passkey_cbor.specs.Encoding.{IsEncoding, IsEncodingOfItems, IsEncodingOfPairs, Simples, items_len, pairs_len}
use Rattle.passkey_cbor.specs.Written.{shortest_head, float_head, simple_head, written, items_written, pairs_written}
use Rattle.passkey_cbor.specs.Writable.{IsWritable, AreWritable, ArePairsWritable}
use Rattle.passkey_cbor.specs.Laws.{WrittenIsEncoding, WrittenIsLeadingItem}

pub shortest_head-encoded : (major n : ℕ) → n < 2 ^ 64 → Heads major n (shortest_head major n)
unfolding shortest_head
shortest_head-encoded major n fits =
    elim (cases_lt n 24) [
      | inl a ↦ rw (lt-ltb n 24 a) (within a refl)
      | inr a ↦ elim (cases_lt n (2 ^ 8)) [
        | inl b ↦ rw (le-ltb n 24 a, lt-ltb n (2 ^ 8) b) (following one b refl)
        | inr b ↦ elim (cases_lt n (2 ^ 16)) [
          | inl c ↦ rw (le-ltb n 24 a, le-ltb n (2 ^ 8) b, lt-ltb n (2 ^ 16) c) (following two c refl)
          | inr c ↦ elim (cases_lt n (2 ^ 32)) [
            | inl d ↦ rw (le-ltb n 24 a, le-ltb n (2 ^ 8) b, le-ltb n (2 ^ 16) c, lt-ltb n (2 ^ 32) d)
                (following four d refl)
            | inr d ↦ rw (le-ltb n 24 a, le-ltb n (2 ^ 8) b, le-ltb n (2 ^ 16) c, le-ltb n (2 ^ 32) d)
                (following eight fits refl)
          ]
        ]
      ]
    ]

-- the cases of a float, by its width
float_cases : (w bits : ℕ) → IsFloat w bits
    → ((w ≡ 2) × (bits < 2 ^ 16)) ⊎ (((w ≡ 4) × (bits < 2 ^ 32)) ⊎ ((w ≡ 8) × (bits < 2 ^ 64)))
float_cases w bits h = grind (arith, nat_tests)

pub float_head-encoded : (f : FloatParts) → IsFloat f.width f.bits → FloatHeads f (float_head f)
unfolding float_head
float_head-encoded f h =
    elim (float_cases f.width f.bits h) [
      | inl a ↦ rw a.0 (inl ((refl, a.1), refl))
      | inr (inl a) ↦ rw a.0 (inr (inl ((refl, a.1), refl)))
      | inr (inr a) ↦ rw a.0 (inr (inr ((refl, a.1), refl)))
    ]

pub simple_cases : (n : ℕ) → IsSimple n → (n < 20) ⊎ ((32 ≤ n) × (n < 256))
simple_cases n h = grind (arith, nat_tests)

simple_head-encoded : (n : ℕ) → IsSimple n → Simples n (simple_head n)
simple_head-encoded n h =
    elim (simple_cases n h) [
      | inl a ↦ rw (lt-ltb n 20 a) (inl (a, refl))
      | inr a ↦ rw (le-ltb n 20 (omega arith)) (inr (a, refl))
    ]

pub number_fits : (n : ℕ) → IsTrue (nat_lt n (2 ^ 64)) → n < 2 ^ 64
number_fits n h = grind (arith, nat_tests)

mutual
  item_encoded : (x : Item) → IsWritable x → IsEncoding x (written x)
  item_encoded (number (pos n)) h = shortest_head-encoded 0 n (number_fits n h)
  item_encoded (number (negsuc n)) h = shortest_head-encoded 1 n (number_fits n h)
  item_encoded (byte_string s) h = inl (
    tt,
    record {
      front = shortest_head 2 (length s);
      back = s;
      first = shortest_head-encoded 2 (length s) h;
      second = refl;
      whole = refl;
    },
  )
  item_encoded (text_string s) h =
      inl (
        h.1,
        record {
          front = shortest_head 3 (length s);
          back = s;
          first = shortest_head-encoded 3 (length s) h.0;
          second = refl;
          whole = refl;
        },
      )
  item_encoded (array xs) h =
      inl (record {
        front = shortest_head 4 (items_len xs);
        back = items_written xs;
        first = shortest_head-encoded 4 (items_len xs) h.0;
        second = items_encoded xs h.1;
        whole = refl;
      })
  item_encoded (map ps) h =
      inl (record {
        front = shortest_head 5 (pairs_len ps);
        back = pairs_written ps;
        first = shortest_head-encoded 5 (pairs_len ps) h.0;
        second = pairs_encoded ps h.1;
        whole = refl;
      })
  item_encoded (tagged t x) h =
      record {
        front = shortest_head 6 t;
        back = written x;
        first = shortest_head-encoded 6 t h.0;
        second = item_encoded x h.1;
        whole = refl;
      }
  item_encoded (boolean b) h = refl
  item_encoded null h = inl refl
  item_encoded (simple n) h = simple_head-encoded n h
  item_encoded (float f) h = float_head-encoded f h

  items_encoded : (xs : Items) → AreWritable xs → IsEncodingOfItems xs (items_written xs)
  items_encoded no_items h = refl
  items_encoded (item x xs) h =
      record {
        front = written x;
        back = items_written xs;
        first = item_encoded x h.0;
        second = items_encoded xs h.1;
        whole = refl;
      }

  pairs_encoded : (ps : Pairs) → ArePairsWritable ps → IsEncodingOfPairs ps (pairs_written ps)
  pairs_encoded no_pairs h = refl
  pairs_encoded (pair k v ps) h = record {
    front = written k ++ written v;
    back = pairs_written ps;
    first = record {
      front = written k;
      back = written v;
      first = item_encoded k h.0.0;
      second = item_encoded v h.0.1;
      whole = refl;
    };
    second = pairs_encoded ps h.1;
    whole = refl;
  }

pub written_is_encoding : WrittenIsEncoding
written_is_encoding x h = item_encoded x h

pub written_is_leading_item : WrittenIsLeadingItem
written_is_leading_item x rest h shallow = record {
  within = omega (arith, length-append (written x) rest);
  encoded = rw (take-append_seam (written x) rest) (item_encoded x h);
  shallow = shallow;
}
