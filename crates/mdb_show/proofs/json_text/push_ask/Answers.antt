-- An ask is a block with the bytes of its command.
use Rattle.mdb_show.proofs.Words.{ap, ◌∙◌, codes, block_json}
use Rattle.mdb_show.proofs.JsonLines.{put_as}
use Rattle.mdb_show.proofs.json_text.push_ask.Goals as goal

pub returns : goal.returns
returns c =
    put_as c.push_block.result _ _ _ _
    (ap (λ bytes. block_json (codes "ask") bytes c.args.command.now c.args.first c.args.last)
    (c.bytes.ensures.bytes ∙ c.write_command.ensures.bytes)) c.push_block.ensures
