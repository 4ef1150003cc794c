-- The causes that words are refused by stand only where no value is written, and most are one.
use Rattle.std.specs.Prelude.{ℕ, Bool, true, false, ◌≡◌, ◌⊎◌, List, [], ◌∷◌, Option, refl}
use Rattle.std.proofs.Common.{inl, inr, sym, ◌∙◌, subst, arith}
use Rattle.std.specs.Net.Grammar.{IsIpv4Text, IsIpv6Text}
use lib.Chars.{codes}
use Rattle.dnw_lexer.specs.dnw_codes.declared.error.ParseError.{ParseError}
use Rattle.dnw_lexer.specs.dnw_codes.declared.error.ParseError.TheVariants.{MissingToken, Message, Proto, ParseInt, ParseTime, AddrParse, DataEncoding, UnexpectedToken}
use Rattle.dnw_name.proofs.RefusalLaws.{completed_causes}
use Rattle.dnw_name.specs.DomainName.{DomainName, IsDomainName}
use Rattle.drd_words.specs.Refusals.{IsMissing, IsMessage, RefusesNumber, RefusesTtl, RefusesInterval, RefusesNameWord, RefusesString, RefusesIpv4, RefusesIpv6, RefusesUnless, RefusesMore, RefusesOneThen, RefusesEach, RefusesJoined, AreAlike, IsOneCause, AreCauses}
use Rattle.drd_words.specs.Word.{IsOutOfMemory, IsNumberWord, IsTtlWord, IsIntervalWord, IsNameWord, IsStringWord}
use Rattle.drd_words.specs.Words.{NoWords, OneThen, EachWord, Joined}

-- Where each value that is written comes with another one, the causes are those of the other.
pub by_written : {A B : Type 0} {Written : A → Type 0} {Fits : B → Type 0} {Refuses : ParseError
    → Type 0} → ((b : B) → Fits b → (a : A) × Written a) → AreCauses Written Refuses
    → AreCauses Fits Refuses
by_written other causes = record {
  none = λ e h b fits. let found = other b fits in causes.none e h found.0 found.1;
  memory = causes.memory;
}

-- What is written by a part has the causes of the part.
pub by_part : {A B : Type 0} {Written : A → Type 0} {Refuses : ParseError → Type 0} (part : B → A)
    → AreCauses Written Refuses → AreCauses (λ b. Written (part b)) Refuses
by_part part causes = by_written (λ b written. (part b, written)) causes

-- Nothing is refused.
pub no_causes : {A : Type 0} (Written : A → Type 0) → AreCauses Written (λ e. ⊥)
no_causes Written = record { none = λ e h. absurd h; memory = λ e h. absurd h }

-- One error that says nothing more, where no value is written.
pub one_error : {A : Type 0} (Written : A → Type 0) (error : ParseError) → (IsOutOfMemory error → ⊥)
    → AreCauses Written (λ e. (e ≡ error) × ((value : A) → Written value → ⊥))
one_error Written error no_memory = record {
  none = λ e h. h.1;
  memory = λ e h. subst (λ (x : ParseError). IsOutOfMemory x → ⊥) (sym h.0) no_memory;
}

pub only_error : (error : ParseError) → AreAlike error error → IsOneCause (λ e. e ≡ error)
only_error error alike = record {
  one = λ e f h k. subst (λ (x : ParseError). AreAlike e x) (sym k)
      (subst (λ (x : ParseError). AreAlike x error) (sym h) alike);
}

-- What is one cause is one where more is known of it.
pub also_one : {More Refuses : ParseError → Type 0} → IsOneCause Refuses
    → IsOneCause (λ e. Refuses e × More e)
also_one cause = record { one = λ e f h k. cause.one e f h.0 k.0 }

pub number_causes : (bits : ℕ) (word : List ℕ)
    → AreCauses (λ n. IsNumberWord bits n word) (RefusesNumber bits word)
number_causes bits word = one_error (λ n. IsNumberWord bits n word) ParseInt (λ m. m)

pub number_one : (bits : ℕ) (word : List ℕ) → IsOneCause (RefusesNumber bits word)
number_one bits word = also_one (only_error ParseInt refl)

pub ttl_causes : (word : List ℕ) → AreCauses (λ seconds. IsTtlWord seconds word) (RefusesTtl word)
ttl_causes word = one_error (λ seconds. IsTtlWord seconds word) ParseTime (λ m. m)

pub ttl_one : (word : List ℕ) → IsOneCause (RefusesTtl word)
ttl_one word = also_one (only_error ParseTime refl)

pub interval_causes : (word : List ℕ)
    → AreCauses (λ interval. IsIntervalWord interval word) (RefusesInterval word)
interval_causes word = one_error (λ interval. IsIntervalWord interval word) ParseTime (λ m. m)

pub interval_one : (word : List ℕ) → IsOneCause (RefusesInterval word)
interval_one word = also_one (only_error ParseTime refl)

pub ipv4_causes : (word : List ℕ)
    → AreCauses (λ address. IsIpv4Text word address) (RefusesIpv4 word)
ipv4_causes word = one_error (λ address. IsIpv4Text word address) AddrParse (λ m. m)

pub ipv4_one : (word : List ℕ) → IsOneCause (RefusesIpv4 word)
ipv4_one word = also_one (only_error AddrParse refl)

pub ipv6_causes : (word : List ℕ)
    → AreCauses (λ address. IsIpv6Text word address) (RefusesIpv6 word)
ipv6_causes word = one_error (λ address. IsIpv6Text word address) AddrParse (λ m. m)

pub ipv6_one : (word : List ℕ) → IsOneCause (RefusesIpv6 word)
ipv6_one word = also_one (only_error AddrParse refl)

-- A word that is missing.
missing_memory : (what : List ℕ) (e : ParseError) → IsMissing what e → IsOutOfMemory e → ⊥
missing_memory what (MissingToken said) h m = m
missing_memory what e h m = absurd h

same_missing : (what : List ℕ) (e f : ParseError) → IsMissing what e → IsMissing what f
    → AreAlike e f
same_missing what (MissingToken said) (MissingToken other) h k = k ∙ sym h
same_missing what (MissingToken said) f h k = absurd k
same_missing what e f h k = absurd h

pub missing_one : (what : List ℕ) → IsOneCause (IsMissing what)
missing_one what = record { one = same_missing what }

-- A message.
pub message_memory : (words : List ℕ) (e : ParseError) → IsMessage words e → IsOutOfMemory e → ⊥
message_memory words (Message said) h m = m
message_memory words e h m = absurd h

same_message : (words : List ℕ) (e f : ParseError) → IsMessage words e → IsMessage words f
    → AreAlike e f
same_message words (Message said) (Message other) h k = k ∙ sym h
same_message words (Message said) f h k = absurd k
same_message words e f h k = absurd h

pub message_one : (words : List ℕ) → IsOneCause (IsMessage words)
message_one words = record { one = same_message words }

-- A test, and causes behind it.
pub tested_causes : {A : Type 0} {Written Fits : A → Type 0} {Refuses : ParseError
    → Type 0} (test : Bool) (says : List ℕ) → ((a : A) → Fits a → Written a × (test ≡ true))
    → AreCauses Written Refuses → AreCauses Fits (RefusesUnless test says Refuses)
tested_causes true says parts causes = by_written (λ a fits. (a, (parts a fits).0)) causes
tested_causes false says parts causes = record {
  none = λ e h a fits. let holds = (parts a fits).1 in absurd (cc);
  memory = message_memory says;
}

pub tested_one : {Refuses : ParseError → Type 0} (test : Bool) (says : List ℕ) → IsOneCause Refuses
    → IsOneCause (RefusesUnless test says Refuses)
tested_one true says cause = cause
tested_one false says cause = message_one says

pub string_causes : (word : List ℕ)
    → AreCauses (λ octets. IsStringWord octets word) (RefusesString word)
string_causes word = record {
  none = λ e h octets written. omega (arith, h.1, written.1);
  memory = λ e h. message_memory (codes "a character string has at most 255 octets") e h.0;
}

pub string_one : (word : List ℕ) → IsOneCause (RefusesString word)
string_one word = also_one (message_one (codes "a character string has at most 255 octets"))

-- A name.
name_none : (origin : Option DomainName) (word : List ℕ) (e : ParseError)
    → RefusesNameWord origin word e → (name : DomainName) → IsNameWord origin name word → ⊥
name_none origin word (Proto cause) h name (read, text, same, full) =
    (completed_causes origin word).none cause h (read, text, subst IsDomainName same full)
name_none origin word e h name written = absurd h

name_memory : (origin : Option DomainName) (word : List ℕ) (e : ParseError)
    → RefusesNameWord origin word e → IsOutOfMemory e → ⊥
name_memory origin word (Proto cause) h m = m
name_memory origin word e h m = absurd h

pub name_causes : (origin : Option DomainName) (word : List ℕ)
    → AreCauses (λ name. IsNameWord origin name word) (RefusesNameWord origin word)
name_causes origin word = record { none = name_none origin word; memory = name_memory origin word }

same_name : (origin : Option DomainName) (word : List ℕ) (e f : ParseError)
    → RefusesNameWord origin word e → RefusesNameWord origin word f → AreAlike e f
same_name origin word (Proto cause) (Proto other) h k =
    (completed_causes origin word).one cause other h k
same_name origin word (Proto cause) f h k = absurd k
same_name origin word e f h k = absurd h

pub name_one : (origin : Option DomainName) (word : List ℕ)
    → IsOneCause (RefusesNameWord origin word)
name_one origin word = record { one = same_name origin word }

-- No word.
pub more_causes : {A : Type 0} (words : List (List ℕ))
    → AreCauses (λ (value : A). NoWords words) (RefusesMore words)
more_causes [] = record { none = λ e h. absurd h; memory = λ e h. absurd h }
more_causes (word ∷ words) = record {
  none = λ e h value none. none;
  memory = λ e h. subst (λ (x : ParseError). IsOutOfMemory x → ⊥) (sym h) (λ m. m);
}

pub more_one : (words : List (List ℕ)) → IsOneCause (RefusesMore words)
more_one [] = record { one = λ e f h. absurd h }
more_one (word ∷ words) = only_error UnexpectedToken refl

-- All words that are left, joined.
pub joined_causes : (what : List ℕ) (Whole : List ℕ → List ℕ → Type 0) (words : List (List ℕ))
    → AreCauses (λ octets. Joined (Whole octets) words) (RefusesJoined what Whole words)
joined_causes what Whole [] =
    record { none = λ e h octets written. written; memory = missing_memory what }
joined_causes what Whole (word ∷ words) =
    one_error (λ octets. Joined (Whole octets) (word ∷ words)) DataEncoding (λ m. m)

pub joined_one : (what : List ℕ) (Whole : List ℕ → List ℕ → Type 0) (words : List (List ℕ))
    → IsOneCause (RefusesJoined what Whole words)
joined_one what Whole [] = missing_one what
joined_one what Whole (word ∷ words) = also_one (only_error DataEncoding refl)

module _ {A : Type 0} {One : A → List ℕ → Type 0} {RefusesOne : List ℕ → ParseError → Type 0}
    (first : (word : List ℕ) → AreCauses (λ x. One x word) (RefusesOne word)) where
  front_memory : (Rest : ParseError → Type 0) (word : List ℕ)
      → ((e : ParseError) → Rest e → IsOutOfMemory e → ⊥) → (e : ParseError)
      → RefusesOne word e ⊎ ((x : A) × One x word × Rest e) → IsOutOfMemory e → ⊥
  front_memory Rest word memory e (inl h) = (first word).memory e h
  front_memory Rest word memory e (inr h) = memory e h.2

  module _ {B : Type 0} {Rest : B → List (List ℕ) → Type 0}
      {RefusesRest : List (List ℕ) → ParseError → Type 0}
      (rest : (words : List (List ℕ)) → AreCauses (λ y. Rest y words) (RefusesRest words)) where
    one_then_none : (word : List ℕ) (words : List (List ℕ)) (e : ParseError)
        → RefusesOne word e ⊎ ((x : A) × One x word × RefusesRest words e) → (pair : A × B)
        → One pair.0 word × Rest pair.1 words → ⊥
    one_then_none word words e (inl h) pair written = (first word).none e h pair.0 written.0
    one_then_none word words e (inr h) pair written = (rest words).none e h.2 pair.1 written.1

    pub one_then_causes : (words : List (List ℕ))
        → AreCauses (λ (pair : A × B). OneThen (One pair.0) (Rest pair.1) words)
        (RefusesOneThen One RefusesOne RefusesRest words)
    one_then_causes [] =
        record { none = λ e h pair written. written; memory = missing_memory (codes "a word") }
    one_then_causes (word ∷ words) = record {
      none = one_then_none word words;
      memory = front_memory (RefusesRest words) word (rest words).memory;
    }

  each_none : (words : List (List ℕ)) (e : ParseError) → RefusesEach One RefusesOne words e
      → (xs : List A) → EachWord One xs words → ⊥
  each_none [] e h xs written = absurd h
  each_none (word ∷ words) e h [] written = written
  each_none (word ∷ words) e (inl h) (x ∷ xs) written = (first word).none e h x written.0
  each_none (word ∷ words) e (inr h) (x ∷ xs) written = each_none words e h.2 xs written.1

  each_memory : (words : List (List ℕ)) (e : ParseError) → RefusesEach One RefusesOne words e
      → IsOutOfMemory e → ⊥
  each_memory [] e h = absurd h
  each_memory (word ∷ words) e h =
      front_memory (RefusesEach One RefusesOne words) word (each_memory words) e h

  pub each_causes : (words : List (List ℕ))
      → AreCauses (λ xs. EachWord One xs words) (RefusesEach One RefusesOne words)
  each_causes words = record { none = each_none words; memory = each_memory words }

  -- The first word comes first.
  module _ (same : (word : List ℕ) → IsOneCause (RefusesOne word)) where
    front_one : (Rest : ParseError → Type 0) (word : List ℕ) → IsOneCause Rest → (e f : ParseError)
        → RefusesOne word e ⊎ ((x : A) × One x word × Rest e)
        → RefusesOne word f ⊎ ((x : A) × One x word × Rest f) → AreAlike e f
    front_one Rest word cause e f (inl h) (inl k) = (same word).one e f h k
    front_one Rest word cause e f (inl h) (inr k) = absurd ((first word).none e h k.0 k.1)
    front_one Rest word cause e f (inr h) (inl k) = absurd ((first word).none f k h.0 h.1)
    front_one Rest word cause e f (inr h) (inr k) = cause.one e f h.2 k.2

    pub one_then_one : {RefusesRest : List (List ℕ) → ParseError → Type 0}
        → ((words : List (List ℕ)) → IsOneCause (RefusesRest words)) → (words : List (List ℕ))
        → IsOneCause (RefusesOneThen One RefusesOne RefusesRest words)
    one_then_one rest [] = missing_one (codes "a word")
    one_then_one {RefusesRest} rest (word ∷ words) =
        record { one = front_one (RefusesRest words) word (rest words) }

    pub each_one : (words : List (List ℕ)) → IsOneCause (RefusesEach One RefusesOne words)
    each_one [] = record { one = λ e f h. absurd h }
    each_one (word ∷ words) =
        record { one = front_one (RefusesEach One RefusesOne words) word (each_one words) }
