mod Fields
mod ItemLaws
