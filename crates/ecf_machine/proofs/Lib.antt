mod CallLaws
mod EntryLaws
mod SizeLaws
mod StepLaws
