-- Lines are answered as their bytes come.
use Rattle.std.proofs.Common.{◌≡◌, ◌∙◌, ◌++◌, ℕ, List, [], ◌∷◌, Option, None, Some, IfSome, inl, inr}
use Rattle.std.proofs.Common.{refl, ap, sym, subst, append-nil, append_assoc}
use Rattle.std.specs.Io.KnownBytes.{Appends, Consumes, IsAtEnd}
use Rattle.std.proofs.KnownBytes.{Appends-trans, Consumes-trans}
use Rattle.passkey_inspect.specs.LineByLine.{Answered, AnswersLast, AppendsAnswers, AppendsLast, WritesAnswers}
use Rattle.passkey_inspect.specs.declared.options.Options.{Options}

-- what answers these bytes and, from what they leave, those after them, answers both
pub answered_both : (o : Options) (first second began middle left text more : List ℕ) → Answered o first began middle text
    → Answered o second middle left more → Answered o (first ++ second) began left (text ++ more)
answered_both o [] second began middle left text more (same, none) b =
    subst (λ it. Answered o second began left (it ++ more)) (sym none) (subst (λ it. Answered o second it left more) same b)
answered_both o (byte ∷ rest) second began middle left text more (inl (is, (line, others, answers, a, e))) b = inl (
  is,
  (
    line,
    others ++ more,
    answers,
    answered_both o rest second [] middle left others more a b,
    ap (λ it. it ++ more) e ∙ append_assoc line others more,
  ),
)
answered_both o (byte ∷ rest) second began middle left text more (inr (other, a)) b =
    inr (other, answered_both o rest second (began ++ byte ∷ []) middle left text more a b)

pub answers_more : (o : Options) (first second began middle left before now after : List ℕ)
    → AppendsAnswers o first began middle before now → AppendsAnswers o second middle left now after
    → AppendsAnswers o (first ++ second) began left before after
answers_more o first second began middle left before now after a b = record {
  text = a.text ++ b.text;
  answered = answered_both o first second began middle left a.text b.text a.answered b.answered;
  appended = b.appended ∙ ap (λ it. it ++ b.text) a.appended ∙ append_assoc before a.text b.text;
}

-- The lines that ended in what was read so far were answered, and the answers written.
pub record WritingAnswers (o : Options) (input unread before now : Option (List ℕ)) (left : List ℕ) : Type 0 where
  pub bytes : List ℕ
  pub text : List ℕ
  pub consumed : Consumes input unread bytes
  pub answered : Answered o bytes [] left text
  pub appended : Appends before now text

-- more bytes are read, and the lines that end in them answered
pub writing_more : (o : Options) (input unread rest before now after : Option (List ℕ)) (bytes left following text : List ℕ)
    → Consumes unread rest bytes → AppendsAnswers o bytes left following [] text → Appends now after text
    → WritingAnswers o input unread before now left → WritingAnswers o input rest before after following
writing_more o input unread rest before now after bytes left following text consumes answers appends so_far = record {
  bytes = so_far.bytes ++ bytes;
  text = so_far.text ++ text;
  consumed = Consumes-trans input unread rest so_far.bytes bytes so_far.consumed consumes;
  answered = answered_both o so_far.bytes bytes [] left following so_far.text text so_far.answered
      (subst (Answered o bytes left following) (sym answers.appended) answers.answered);
  appended = Appends-trans before now after so_far.text text so_far.appended appends;
}

-- the input is at its end
pub writing_all : (o : Options) (input unread rest before now after : Option (List ℕ)) (left text : List ℕ)
    → Consumes unread rest [] → IsAtEnd rest → AppendsLast o left [] text → Appends now after text
    → WritingAnswers o input unread before now left → IfSome input (λ all. WritesAnswers o all before after)
writing_all o None unread rest before now after left text consumes end last appends so_far = tt
writing_all o (Some all) unread None before now after left text consumes end last appends so_far =
    absurd (Consumes-trans (Some all) unread None so_far.bytes [] so_far.consumed consumes)
writing_all o (Some all) unread (Some rest) before now after left text consumes end last appends so_far =
    let whole : all ≡ so_far.bytes =
    Consumes-trans (Some all) unread (Some rest) so_far.bytes [] so_far.consumed consumes
    ∙ ap (λ it. (so_far.bytes ++ []) ++ it) end ∙ append-nil (so_far.bytes ++ []) ∙ append-nil so_far.bytes in
    record {
      text = so_far.text ++ text;
      answers = record {
        left = left;
        ended = so_far.text;
        last = text;
        answered = subst (λ it. Answered o it [] left so_far.text) (sym whole) so_far.answered;
        answers_last = subst (AnswersLast o left) (sym last.appended) last.answers;
        whole = refl;
      };
      appended = Appends-trans before now after so_far.text text so_far.appended appends;
    }
