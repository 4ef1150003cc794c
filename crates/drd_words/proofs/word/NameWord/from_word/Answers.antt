use Rattle.std.proofs.Common.{rules, subst, inl, inr, ◌⊎◌, ℕ, List}
use Rattle.std.specs.Prelude.{Option}
use Rattle.dnw_name.specs.DomainName.{DomainName, IsDomainName}
use Rattle.dnw_name.specs.NameRefusals.{RefusesCompleted}
use Rattle.dnw_name.specs.NameText.{NameText, complete_name}
use Rattle.dnw_lexer.specs.dnw_codes.ProtoError.{IsMemory}
use Rattle.dnw_lexer.specs.dnw_codes.declared.error.ProtoError.{ProtoError}
use Rattle.drd_words.specs.Word.{IsNameWord}
use Rattle.drd_words.proofs.word.NameWord.from_word.Goals as goal

-- A word that was refused, and not for want of memory, is no name.
no_name : (origin : Option DomainName) (word : List ℕ) (e : ProtoError) → (IsMemory e → ⊥)
    → IsMemory e ⊎ ((read : DomainName) → NameText word read → IsDomainName (complete_name read origin) → ⊥)
    → (name : DomainName) → IsNameWord origin name word → ⊥
no_name origin word e few (inl memory) name is = few memory
no_name origin word e few (inr none) name (read, text, same, full) = none read text (subst IsDomainName same full)

-- So it is refused by a cause.
caused : (origin : Option DomainName) (word : List ℕ) (e : ProtoError) → (IsMemory e → ⊥)
    → IsMemory e ⊎ RefusesCompleted origin word e → RefusesCompleted origin word e
caused origin word e few (inl memory) = absurd (few memory)
caused origin word e few (inr cause) = cause

pub returns-in-Err : goal.returns-in-Err
returns-in-Err c =
    let few : IsMemory c.in-Err.refused → ⊥ = search rules in
    let none = no_name _ _ _ few c.in-Err.ensures.refused in
    record { ok = tt; refused = inr none; cause = inr (caused _ _ _ few c.in-Err.ensures.cause) }
