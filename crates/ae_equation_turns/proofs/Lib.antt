mod RestLaws
mod OrderLaws
mod SideLaws
mod RightLaws
