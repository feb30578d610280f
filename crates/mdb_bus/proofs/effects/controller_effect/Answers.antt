-- A word of the controller has at each phase the effect that the function of that phase finds.
use Rattle.mdb_bus.proofs.Words.{Controller, IsAskFront, Word}
use Rattle.mdb_bus.proofs.Followed.{ask_front_followed}
use Rattle.mdb_bus.proofs.Masked.{front_known}
use Rattle.mdb_bus.proofs.effects.controller_effect.Goals as goal

pub returns-in-InAsk : goal.returns-in-InAsk
returns-in-InAsk c = record {
  effect = λ levels sound.
      let front : IsAskFront c.args.scope.now c.args.place.now.bytes = rw c.in-InAsk.is at sound in
      rw c.in-InAsk.is (c.go_on_asking.ensures.effect levels
      (front_known c.first_two_bytes_tell_enable_options.ensures _ _ front.rest front.command
      front.some front.spelled.spells front.spelled.known)
      (ask_front_followed c.first_byte_tells_the_device.ensures _ _ front));
  belongs = rw c.in-InAsk.is c.go_on_asking.ensures.belongs;
}

pub returns-in-InReply-clause-effect : goal.returns-in-InReply-clause-effect
returns-in-InReply-clause-effect c =
    λ levels sound. rw c.in-InReply.is (c.cut_in.ensures.reply c.args.times c.args.scope.now levels
    c.args.place.now.command c.args.place.now.bytes)

pub returns-in-InRepeat-clause-effect : goal.returns-in-InRepeat-clause-effect
returns-in-InRepeat-clause-effect c =
    λ levels sound. rw c.in-InRepeat.is (c.cut_in-in-InRepeat.ensures.repeat c.args.times
    c.args.scope.now levels c.args.place.now.command c.args.place.now.last_reply.reply _)

pub returns-in-Replied-2 : goal.returns-in-Replied-2
returns-in-Replied-2 c = record {
  effect = λ levels sound. rw c.in-Replied-2.is (c.answer_reply.ensures.effect c.args.scope.now
      levels c.args.place.now.command c.args.place.now.last_reply.reply);
  belongs = rw c.in-Replied-2.is (c.answer_reply.ensures.belongs c.args.place.now.bytes
      (Word c.args.at Controller c.args.word));
}

pub returns-in-InForeign-2 : goal.returns-in-InForeign-2
returns-in-InForeign-2 c = record {
  effect = λ levels sound. rw c.in-InForeign-2.is
      (c.go_on_foreign.ensures.effect c.args.times c.args.scope.now levels);
  belongs = c.go_on_foreign.ensures.belongs c.args.place.now.phase c.args.place.now.bytes
      (Word c.args.at Controller c.args.word);
}

pub returns-in-Quiet-clause-belongs : goal.returns-in-Quiet-clause-belongs
returns-in-Quiet-clause-belongs c =
    c.begin_block.ensures.belongs _ c.args.place.now.bytes (λ asking. cc (asking, c.in-Quiet.is))

pub returns-in-Asked-clause-belongs : goal.returns-in-Asked-clause-belongs
returns-in-Asked-clause-belongs c =
    c.begin_block-in-Asked.ensures.belongs _ c.args.place.now.bytes
    (λ asking. cc (asking, c.in-Asked.is))

pub returns-in-Returned-clause-belongs : goal.returns-in-Returned-clause-belongs
returns-in-Returned-clause-belongs c =
    c.begin_block-in-Returned.ensures.belongs _ c.args.place.now.bytes
    (λ asking. cc (asking, c.in-Returned.is))
