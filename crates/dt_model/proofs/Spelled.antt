-- What reading takes from the front of bytes is spelled there, and what is spelled there is read again.
use Rattle.std.proofs.Common.{◌≡◌, ℕ, zero, suc, ◌+◌, ◌<◌, ◌≤◌, Bool, true, false, cond, not, ltb, eqb, List, [], ◌∷◌, ◌++◌, length, take, drop, replicate, Result, Ok, Err, refl, sym, ap, subst, ◌∙◌, append_assoc, length-append, arith, inl, inr, ◌⊎◌}
use Rattle.std.specs.List.{list_all}
use Rattle.std.proofs.lemmas.Bool.{ltb-false, ltb-true, not-true, lt-ltb, le-ltb, eqb-true, cases_Bool, and_parts}
use Rattle.std.proofs.lemmas.List.{take-append-drop, take_at, drop_at, length-take-le, length-replicate, append-nil}
use Rattle.byteorder.specs.Endian.{big_number}
use Rattle.byteorder.specs.Numbers.{big_from-append, big_from-take}
use Rattle.dt_model.specs.Token.{Token, BeginNode, Prop, EndNode, Nop, Finish}
use Rattle.dt_model.specs.Spelling.{padding, padded, IsWord, HasNoNul, Finds, BeginsWith, SpellsBegin, SpellsProperty, Spells}
use Rattle.dt_model.specs.Fault.{◌>>=◌, word_at, are_zeros, padded_at, until_nul, string_at, begin_at, property_at, token_of, token_at}

-- ---- steps that may fail

abbrev done : {A : Type 0} → A → Result A ℕ
done x = Ok x

pub ok_is : {A : Type 0} (x y : A) → done x ≡ done y → x ≡ y
ok_is x y e = cc

pair_is : {A : Type 0} (a b : A) (x y : List ℕ) → done {A = A × List ℕ} (a, x) ≡ done {A = A × List ℕ} (b, y) → (a ≡ b) × (x ≡ y)
pair_is {A = A} a b x y e =
    let same = ok_is {A = A × List ℕ} (a, x) (b, y) e in
    (ap (λ (p : A × List ℕ). p.0) same, ap (λ (p : A × List ℕ). p.1) same)

bind_ok : {A B : Type 0} (r : Result A ℕ) (f : A → Result B ℕ) (y : B) → (r >>= f) ≡ Ok y → (x : A) × (r ≡ Ok x) × (f x ≡ Ok y)
bind_ok (Ok x) f y e = (x, refl, e)
bind_ok (Err d) f y e = absurd cc

guard_ok : {A : Type 0} (b : Bool) (d : ℕ) (r : Result A ℕ) (y : A) → cond b (Err d) r ≡ Ok y → (b ≡ false) × (r ≡ Ok y)
guard_ok true d r y e = absurd cc
guard_ok false d r y e = (refl, e)

test_ok : {A : Type 0} (b : Bool) (d : ℕ) (r : Result A ℕ) (y : A) → cond b r (Err d) ≡ Ok y → (b ≡ true) × (r ≡ Ok y)
test_ok true d r y e = (refl, e)
test_ok false d r y e = absurd cc

-- ---- words

record TakesWord (number : ℕ) (bytes rest : List ℕ) : Type 0 where
  begins : BeginsWith number bytes rest
  shorter : length rest + 4 ≡ length bytes

word_takes : (bytes : List ℕ) (number : ℕ) (rest : List ℕ) → word_at bytes ≡ Ok (number, rest) → TakesWord number bytes rest
word_takes bytes number rest e =
    let g = guard_ok (ltb (length bytes) 4) 7 (Ok (big_number 4 bytes, drop 4 bytes)) (number, rest) e in
    let long : 4 ≤ length bytes = ltb-false _ _ g.0 in
    let same = ok_is (big_number 4 bytes, drop 4 bytes) (number, rest) g.1 in
    let number_is : big_number 4 bytes ≡ number = ap (λ (p : ℕ × List ℕ). p.0) same in
    let rest_is : drop 4 bytes ≡ rest = ap (λ (p : ℕ × List ℕ). p.1) same in
    let front : length (take 4 bytes) ≡ 4 = length-take-le 4 bytes long in
    let parts : bytes ≡ take 4 bytes ++ rest = sym (take-append-drop 4 bytes) ∙ ap (λ (r : List ℕ). take 4 bytes ++ r) rest_is in
    record {
      begins = record {
        word = take 4 bytes;
        is_word = record { length_is = front; number_is = big_from-take 0 4 4 bytes (omega arith) ∙ number_is };
        parts = parts;
      };
      shorter = omega (arith, ap length parts, length-append (take 4 bytes) rest, front);
    }

word_again : (word rest : List ℕ) (number : ℕ) → IsWord number word → word_at (word ++ rest) ≡ Ok (number, rest)
word_again word rest number is =
    let long : ltb (length (word ++ rest)) 4 ≡ false = le-ltb _ _ (omega (arith, length-append word rest, is.length_is)) in
    let number_is : big_number 4 (word ++ rest) ≡ number = big_from-append 4 word rest (omega (arith, is.length_is)) ∙ is.number_is in
    rw (long, number_is, drop_at word rest 4 is.length_is) refl

-- ---- padding

zeros_are : (xs : List ℕ) → are_zeros xs ≡ true → xs ≡ replicate (length xs) 0
zeros_are [] e = refl
zeros_are (x ∷ xs) e =
    let both = and_parts (eqb x 0) (are_zeros xs) e in
    ap (λ (y : ℕ). y ∷ xs) (eqb-true x 0 both.0) ∙ ap (λ (ys : List ℕ). 0 ∷ ys) (zeros_are xs both.1)

are_zeros-replicate : (n : ℕ) → are_zeros (replicate n 0) ≡ true
are_zeros-replicate zero = refl
are_zeros-replicate (suc n) = are_zeros-replicate n

record TakesPadded (count : ℕ) (bytes front rest : List ℕ) : Type 0 where
  parts : bytes ≡ padded front ++ rest
  length_is : length front ≡ count
  front_is : front ≡ take count bytes

padded_takes : (rule count : ℕ) (bytes front rest : List ℕ) → padded_at rule count bytes ≡ Ok (front, rest) → TakesPadded count bytes front rest
unfolding padded_at
padded_takes rule count bytes front rest e =
    let behind = drop count bytes in
    let taken : List ℕ × List ℕ = (take count bytes, drop (padding count) behind) in
    let g = guard_ok (ltb (length bytes) (count + padding count)) 7 (cond (are_zeros (take (padding count) behind)) (Ok taken) (Err rule)) (front, rest) e in
    let long : count + padding count ≤ length bytes = ltb-false _ _ g.0 in
    let h = test_ok (are_zeros (take (padding count) behind)) rule (Ok taken) (front, rest) g.1 in
    let same = ok_is taken (front, rest) h.1 in
    let front_is : take count bytes ≡ front = ap (λ (p : List ℕ × List ℕ). p.0) same in
    let rest_is : drop (padding count) behind ≡ rest = ap (λ (p : List ℕ × List ℕ). p.1) same in
    let count_is : length (take count bytes) ≡ count = length-take-le count bytes (omega arith) in
    let behind_long : padding count ≤ length behind = omega (arith, ap length (take-append-drop count bytes), length-append (take count bytes) behind, count_is) in
    let zeros : take (padding count) behind ≡ replicate (padding count) 0 = zeros_are (take (padding count) behind) h.0 ∙ ap (λ (n : ℕ). replicate n 0) (length-take-le (padding count) behind behind_long) in
    let behind_is : behind ≡ replicate (padding count) 0 ++ rest = sym (take-append-drop (padding count) behind) ∙ ap (λ (z : List ℕ). z ++ drop (padding count) behind) zeros ∙ ap (λ (r : List ℕ). replicate (padding count) 0 ++ r) rest_is in
    let length_is : length front ≡ count = ap length (sym front_is) ∙ count_is in
    record {
      parts =
          sym (take-append-drop count bytes) ∙ ap (λ (b : List ℕ). take count bytes ++ b) behind_is
          ∙ sym (append_assoc (take count bytes) (replicate (padding count) 0) rest)
          ∙ ap (λ (f : List ℕ). (f ++ replicate (padding count) 0) ++ rest) front_is
          ∙ ap (λ (n : ℕ). (front ++ replicate (padding n) 0) ++ rest) (sym length_is);
      length_is = length_is;
      front_is = sym front_is;
    }

padded_again : (rule : ℕ) (front rest : List ℕ) → padded_at rule (length front) (padded front ++ rest) ≡ Ok (front, rest)
unfolding padded_at
padded_again rule front rest =
    let zeros = replicate (padding (length front)) 0 in
    let regrouped : padded front ++ rest ≡ front ++ (zeros ++ rest) = append_assoc front zeros rest in
    let zeros_length : length zeros ≡ padding (length front) = length-replicate (padding (length front)) 0 in
    let long : ltb (length (front ++ (zeros ++ rest))) (length front + padding (length front)) ≡ false
    = le-ltb _ _ (omega (arith, length-append front (zeros ++ rest), length-append zeros rest, zeros_length)) in
    let behind : drop (length front) (front ++ (zeros ++ rest)) ≡ zeros ++ rest = drop_at front (zeros ++ rest) (length front) refl in
    let first : take (padding (length front)) (zeros ++ rest) ≡ zeros = take_at zeros rest (padding (length front)) zeros_length in
    let second : drop (padding (length front)) (zeros ++ rest) ≡ rest = drop_at zeros rest (padding (length front)) zeros_length in
    ap (padded_at rule (length front)) regrouped
    ∙ rw (long, behind, first, second, take_at front (zeros ++ rest) (length front) refl, are_zeros-replicate (padding (length front))) refl

-- ---- names

take-one_more : (n b : ℕ) (bytes : List ℕ) → take (1 + n) (b ∷ bytes) ≡ b ∷ take n bytes
take-one_more n b bytes = let k : 1 + n ≡ suc n = omega arith in ap (λ (m : ℕ). take m (b ∷ bytes)) k

drop-one_more : (n b : ℕ) (bytes : List ℕ) → drop (1 + n + 1) (b ∷ bytes) ≡ drop (n + 1) bytes
drop-one_more n b bytes = let k : 1 + n + 1 ≡ suc (n + 1) = omega arith in ap (λ (m : ℕ). drop m (b ∷ bytes)) k

no_nul_before : (bytes : List ℕ) → HasNoNul (take (until_nul bytes) bytes)
no_nul_before [] = refl
no_nul_before (b ∷ bytes) =
    elim (cases_Bool (eqb b 0)) [
      | inl z ↦ rw z refl
      | inr nz ↦ rw (nz, take-one_more (until_nul bytes) b bytes, nz) (no_nul_before bytes)
    ]

nul_behind : (bytes : List ℕ) → until_nul bytes < length bytes → bytes ≡ take (until_nul bytes) bytes ++ 0 ∷ drop (until_nul bytes + 1) bytes
nul_behind [] lt = absurd (omega arith)
nul_behind (b ∷ bytes) lt =
    elim (cases_Bool (eqb b 0)) [
      | inl z ↦ rw z (ap (λ (x : ℕ). x ∷ bytes) (eqb-true b 0 z))
      | inr nz ↦
          let below = rw nz at lt in
          rw (nz, take-one_more (until_nul bytes) b bytes, drop-one_more (until_nul bytes) b bytes) (ap (λ (xs : List ℕ). b ∷ xs) (nul_behind bytes (omega (arith, below))))
    ]

until_nul-is : (name rest : List ℕ) → HasNoNul name → until_nul (name ++ 0 ∷ rest) ≡ length name
until_nul-is [] rest plain = refl
until_nul-is (c ∷ name) rest plain =
    let both = and_parts (not (eqb c 0)) (list_all (λ byte. not (eqb byte 0)) name) plain in
    rw (not-true (eqb c 0) both.0) (omega (arith, until_nul-is name rest both.1))

string_takes : (strings : List ℕ) (offset : ℕ) (name : List ℕ) → string_at strings offset ≡ Ok name → Finds strings offset name
unfolding string_at
string_takes strings offset name e =
    let tail = drop offset strings in
    let g = test_ok (ltb (until_nul tail) (length tail)) 8 (Ok (take (until_nul tail) tail)) name e in
    let name_is = ok_is (take (until_nul tail) tail) name g.1 in
    record {
      plain = subst HasNoNul name_is (no_nul_before tail);
      rest = drop (until_nul tail + 1) tail;
      parts = nul_behind tail (ltb-true _ _ g.0) ∙ ap (λ (n : List ℕ). n ++ 0 ∷ drop (until_nul tail + 1) tail) name_is;
    }

string_again : (strings : List ℕ) (offset : ℕ) (name : List ℕ) → Finds strings offset name → string_at strings offset ≡ Ok name
unfolding string_at
string_again strings offset name finds =
    let until = until_nul-is name finds.rest finds.plain in
    let within : ltb (length name) (length (name ++ 0 ∷ finds.rest)) ≡ true = lt-ltb _ _ (omega (arith, length-append name (0 ∷ finds.rest))) in
    rw (finds.parts, until, within, take_at name (0 ∷ finds.rest) (length name) refl) refl

-- ---- tokens

-- a token that was taken from the front
pub record Takes (strings : List ℕ) (token : Token) (bytes rest : List ℕ) : Type 0 where
  pub front : List ℕ
  pub parts : bytes ≡ front ++ rest
  pub shorter : length rest < length bytes
  pub spells : Spells strings token front

record TakesBegin (token : Token) (bytes rest : List ℕ) : Type 0 where
  name : List ℕ
  token_is : BeginNode name ≡ token
  plain : HasNoNul name
  parts : bytes ≡ padded (name ++ 0 ∷ []) ++ rest

begin_takes : (bytes : List ℕ) (token : Token) (rest : List ℕ) → begin_at bytes ≡ Ok (token, rest) → TakesBegin token bytes rest
unfolding begin_at
begin_takes bytes token rest e =
    let name = take (until_nul bytes) bytes in
    let read : Result (Token × List ℕ) ℕ = padded_at 9 (until_nul bytes + 1) bytes >>= λ x. Ok (BeginNode name, x.1) in
    let g = test_ok (ltb (until_nul bytes) (length bytes)) 9 read (token, rest) e in
    let b = bind_ok (padded_at 9 (until_nul bytes + 1) bytes) (λ x. Ok (BeginNode name, x.1)) (token, rest) g.1 in
    let t = padded_takes 9 (until_nul bytes + 1) bytes b.0.0 b.0.1 b.1 in
    let same = pair_is (BeginNode name) token b.0.1 rest b.2 in
    let whole = nul_behind bytes (ltb-true _ _ g.0) in
    let behind = drop (until_nul bytes + 1) bytes in
    let name_length : length name ≡ until_nul bytes = length-take-le (until_nul bytes) bytes (omega (arith, ltb-true _ _ g.0)) in
    let with_nul : take (until_nul bytes + 1) bytes ≡ name ++ 0 ∷ []
    = ap (take (until_nul bytes + 1)) (whole ∙ sym (append_assoc name (0 ∷ []) behind)) ∙ take_at (name ++ 0 ∷ []) behind (until_nul bytes + 1) (omega (arith, length-append name (0 ∷ []), name_length)) in
    record {
      name = name;
      token_is = same.0;
      plain = no_nul_before bytes;
      parts = t.parts ∙ ap (λ (f : List ℕ). padded f ++ b.0.1) (t.front_is ∙ with_nul) ∙ ap (λ (r : List ℕ). padded (name ++ 0 ∷ []) ++ r) same.1;
    }

begin_at-of : (bytes : List ℕ) (n : ℕ) (name front rest : List ℕ) → until_nul bytes ≡ n → n < length bytes → padded_at 9 (n + 1) bytes ≡ Ok (front, rest) → take n bytes ≡ name → begin_at bytes ≡ Ok (BeginNode name, rest)
unfolding begin_at
begin_at-of bytes n name front rest until within read taken = rw (until, lt-ltb n (length bytes) within, read, taken) refl

begin_again : (name rest : List ℕ) → HasNoNul name → begin_at (padded (name ++ 0 ∷ []) ++ rest) ≡ Ok (BeginNode name, rest)
begin_again name rest plain =
    let front : List ℕ = name ++ 0 ∷ [] in
    let zeros : List ℕ = replicate (padding (length front)) 0 in
    let bytes : List ℕ = padded front ++ rest in
    let regrouped : bytes ≡ name ++ 0 ∷ (zeros ++ rest) = append_assoc front zeros rest ∙ append_assoc name (0 ∷ []) (zeros ++ rest) in
    let front_length : length front ≡ length name + 1 = omega (arith, length-append name (0 ∷ [])) in
    let until : until_nul bytes ≡ length name = ap until_nul regrouped ∙ until_nul-is name (zeros ++ rest) plain in
    let within : length name < length bytes = omega (arith, ap length regrouped, length-append name (0 ∷ (zeros ++ rest))) in
    let read : padded_at 9 (length name + 1) bytes ≡ Ok (front, rest) = ap (λ (n : ℕ). padded_at 9 n bytes) (sym front_length) ∙ padded_again 9 front rest in
    begin_at-of bytes (length name) name front rest until within read (ap (take (length name)) regrouped ∙ take_at name (0 ∷ (zeros ++ rest)) (length name) refl)

record TakesProperty (strings : List ℕ) (token : Token) (bytes rest : List ℕ) : Type 0 where
  name : List ℕ
  value : List ℕ
  offset : ℕ
  behind_length : List ℕ
  token_is : Prop name value ≡ token
  finds : Finds strings offset name
  value_length : BeginsWith (length value) bytes behind_length
  name_offset : BeginsWith offset behind_length (padded value ++ rest)

property_takes : (strings bytes : List ℕ) (token : Token) (rest : List ℕ) → property_at strings bytes ≡ Ok (token, rest) → TakesProperty strings token bytes rest
unfolding property_at
property_takes strings bytes token rest e =
    let a = bind_ok (word_at bytes) (λ count. word_at count.1 >>= λ offset. padded_at 7 count.0 offset.1 >>= λ value. string_at strings offset.0 >>= λ name. Ok (Prop name value.0, value.1)) (token, rest) e in
    let b = bind_ok (word_at a.0.1) (λ offset. padded_at 7 a.0.0 offset.1 >>= λ value. string_at strings offset.0 >>= λ name. Ok (Prop name value.0, value.1)) (token, rest) a.2 in
    let c = bind_ok (padded_at 7 a.0.0 b.0.1) (λ value. string_at strings b.0.0 >>= λ name. Ok (Prop name value.0, value.1)) (token, rest) b.2 in
    let d = bind_ok (string_at strings b.0.0) (λ name. Ok (Prop name c.0.0, c.0.1)) (token, rest) c.2 in
    let same = pair_is (Prop d.0 c.0.0) token c.0.1 rest d.2 in
    let t = padded_takes 7 a.0.0 b.0.1 c.0.0 c.0.1 c.1 in
    let behind : b.0.1 ≡ padded c.0.0 ++ rest = t.parts ∙ ap (λ (r : List ℕ). padded c.0.0 ++ r) same.1 in
    record {
      name = d.0;
      value = c.0.0;
      offset = b.0.0;
      behind_length = a.0.1;
      token_is = same.0;
      finds = string_takes strings b.0.0 d.0 d.1;
      value_length = subst (λ (n : ℕ). BeginsWith n bytes a.0.1) (sym t.length_is) (word_takes bytes a.0.0 a.0.1 a.1).begins;
      name_offset = subst (λ (r : List ℕ). BeginsWith b.0.0 a.0.1 r) behind (word_takes a.0.1 b.0.0 b.0.1 b.1).begins;
    }

property_again : (strings name value rest length_word offset_word : List ℕ) (offset : ℕ) → Finds strings offset name → IsWord (length value) length_word → IsWord offset offset_word
    → property_at strings (length_word ++ (offset_word ++ (padded value ++ rest))) ≡ Ok (Prop name value, rest)
unfolding property_at
property_again strings name value rest length_word offset_word offset finds length_is offset_is =
    rw (word_again length_word (offset_word ++ (padded value ++ rest)) (length value) length_is, word_again offset_word (padded value ++ rest) offset offset_is, padded_again 7 value rest, string_again strings offset name finds) refl

-- what stands behind a token's first word
record Behind (strings : List ℕ) (kind : ℕ) (token : Token) (bytes rest : List ℕ) : Type 0 where
  front : List ℕ
  parts : bytes ≡ front ++ rest
  spells : (word : List ℕ) → IsWord kind word → Spells strings token (word ++ front)

chosen : {A : Type 0} (b : Bool) (x y z : A) → cond b x y ≡ z → ((b ≡ true) × (x ≡ z)) ⊎ ((b ≡ false) × (y ≡ z))
chosen true x y z e = inl (refl, e)
chosen false x y z e = inr (refl, e)

only_word : (strings bytes rest : List ℕ) (kind : ℕ) (token other : Token) → ((word : List ℕ) → IsWord kind word → Spells strings token word) → done {A = Token × List ℕ} (token, bytes) ≡ done {A = Token × List ℕ} (other, rest) → Behind strings kind other bytes rest
only_word strings bytes rest kind token other spells e =
    let same = pair_is token other bytes rest e in
    record {
      front = [];
      parts = same.1;
      spells = λ word is_word. subst (λ (t : Token). Spells strings t (word ++ [])) same.0 (subst (Spells strings token) (sym (append-nil word)) (spells word is_word));
    }

begin_word : (strings bytes rest : List ℕ) (kind : ℕ) (token : Token) → kind ≡ 1 → TakesBegin token bytes rest → Behind strings kind token bytes rest
begin_word strings bytes rest kind token is t =
    record {
      front = padded (t.name ++ 0 ∷ []);
      parts = t.parts;
      spells = λ word is_word.
          let made : SpellsBegin t.name (word ++ padded (t.name ++ 0 ∷ [])) = record { plain = t.plain; spelled = record { word = word; is_word = subst (λ (n : ℕ). IsWord n word) is is_word; parts = refl } } in
          subst (λ (u : Token). Spells strings u (word ++ padded (t.name ++ 0 ∷ []))) t.token_is made;
    }

property_word : (strings bytes rest : List ℕ) (kind : ℕ) (token : Token) → kind ≡ 3 → TakesProperty strings token bytes rest → Behind strings kind token bytes rest
property_word strings bytes rest kind token is t =
    let length_word = t.value_length.word in
    let offset_word = t.name_offset.word in
    let front : List ℕ = length_word ++ (offset_word ++ padded t.value) in
    record {
      front = front;
      parts =
          t.value_length.parts ∙ ap (λ (r : List ℕ). length_word ++ r) (t.name_offset.parts ∙ sym (append_assoc offset_word (padded t.value) rest))
          ∙ sym (append_assoc length_word (offset_word ++ padded t.value) rest);
      spells = λ word is_word.
          let made : SpellsProperty strings t.name t.value (word ++ front) = record {
            offset = t.offset;
            finds = t.finds;
            behind_kind = front;
            behind_length = offset_word ++ padded t.value;
            kind = record { word = word; is_word = subst (λ (n : ℕ). IsWord n word) is is_word; parts = refl };
            value_length = record { word = length_word; is_word = t.value_length.is_word; parts = refl };
            name_offset = record { word = offset_word; is_word = t.name_offset.is_word; parts = refl };
          } in
          subst (λ (u : Token). Spells strings u (word ++ front)) t.token_is made;
    }

token_of-takes : (strings : List ℕ) (kind : ℕ) (bytes : List ℕ) (token : Token) (rest : List ℕ) → token_of strings kind bytes ≡ Ok (token, rest) → Behind strings kind token bytes rest
unfolding token_of
token_of-takes strings kind bytes token rest e =
    elim (chosen (eqb kind 1) _ _ _ e) [
      | inl one ↦ begin_word strings bytes rest kind token (eqb-true kind 1 one.0) (begin_takes bytes token rest one.1)
      | inr a ↦ elim (chosen (eqb kind 2) _ _ _ a.1) [
        | inl two ↦ only_word strings bytes rest kind EndNode token (λ word is_word. subst (λ (n : ℕ). IsWord n word) (eqb-true kind 2 two.0) is_word) two.1
        | inr b ↦ elim (chosen (eqb kind 3) _ _ _ b.1) [
          | inl three ↦ property_word strings bytes rest kind token (eqb-true kind 3 three.0) (property_takes strings bytes token rest three.1)
          | inr c ↦ elim (chosen (eqb kind 4) _ _ _ c.1) [
            | inl four ↦ only_word strings bytes rest kind Nop token (λ word is_word. subst (λ (n : ℕ). IsWord n word) (eqb-true kind 4 four.0) is_word) four.1
            | inr d ↦ elim (chosen (eqb kind 9) _ _ _ d.1) [
              | inl nine ↦ only_word strings bytes rest kind Finish token (λ word is_word. subst (λ (n : ℕ). IsWord n word) (eqb-true kind 9 nine.0) is_word) nine.1
              | inr f ↦ absurd (let g = f.1 in cc)
            ]
          ]
        ]
      ]
    ]

pub token_takes : (strings bytes : List ℕ) (token : Token) (rest : List ℕ) → token_at strings bytes ≡ Ok (token, rest) → Takes strings token bytes rest
unfolding token_at
token_takes strings bytes token rest e =
    let a = bind_ok (word_at bytes) (λ kind. token_of strings kind.0 kind.1) (token, rest) e in
    let t = word_takes bytes a.0.0 a.0.1 a.1 in
    let b = token_of-takes strings a.0.0 a.0.1 token rest a.2 in
    record {
      front = t.begins.word ++ b.front;
      parts = t.begins.parts ∙ ap (λ (r : List ℕ). t.begins.word ++ r) b.parts ∙ sym (append_assoc t.begins.word b.front rest);
      shorter = omega (arith, t.shorter, ap length b.parts, length-append b.front rest);
      spells = b.spells t.begins.word t.begins.is_word;
    }

-- ---- a token that is spelled is read again

after_word : (strings word others : List ℕ) (kind : ℕ) → IsWord kind word → token_at strings (word ++ others) ≡ token_of strings kind others
unfolding token_at
after_word strings word others kind is = rw (word_again word others kind is) refl

plain_word : (strings word rest : List ℕ) (kind : ℕ) (token : Token) → token_of strings kind rest ≡ Ok (token, rest) → IsWord kind word → token_at strings (word ++ rest) ≡ Ok (token, rest)
plain_word strings word rest kind token is is_word = after_word strings word rest kind is_word ∙ is

pub token_again : (strings : List ℕ) (token : Token) (front rest : List ℕ) → Spells strings token front → token_at strings (front ++ rest) ≡ Ok (token, rest)
unfolding token_of
token_again strings (BeginNode name) front rest spells =
    let s = spells.spelled in
    ap (λ (f : List ℕ). token_at strings (f ++ rest)) s.parts ∙ ap (token_at strings) (append_assoc s.word (padded (name ++ 0 ∷ [])) rest)
    ∙ after_word strings s.word (padded (name ++ 0 ∷ []) ++ rest) 1 s.is_word ∙ begin_again name rest spells.plain
token_again strings (Prop name value) front rest spells =
    let k = spells.kind in
    let l = spells.value_length in
    let o = spells.name_offset in
    let whole : front ≡ k.word ++ (l.word ++ (o.word ++ padded value)) = k.parts ∙ ap (λ (b : List ℕ). k.word ++ b) (l.parts ∙ ap (λ (b : List ℕ). l.word ++ b) o.parts) in
    let regrouped : front ++ rest ≡ k.word ++ (l.word ++ (o.word ++ (padded value ++ rest)))
    = ap (λ (f : List ℕ). f ++ rest) whole ∙ append_assoc k.word (l.word ++ (o.word ++ padded value)) rest
    ∙ ap (λ (b : List ℕ). k.word ++ b) (append_assoc l.word (o.word ++ padded value) rest ∙ ap (λ (b : List ℕ). l.word ++ b) (append_assoc o.word (padded value) rest)) in
    ap (token_at strings) regrouped ∙ after_word strings k.word (l.word ++ (o.word ++ (padded value ++ rest))) 3 k.is_word
    ∙ property_again strings name value rest l.word o.word spells.offset spells.finds l.is_word o.is_word
token_again strings EndNode front rest spells = plain_word strings front rest 2 EndNode refl spells
token_again strings Nop front rest spells = plain_word strings front rest 4 Nop refl spells
token_again strings Finish front rest spells = plain_word strings front rest 9 Finish refl spells
